-- The fault of a connection where an item can't be read.
use Rattle.lynx_codec.specs.declared.fault.DecodeFault.{DecodeFault}
use Rattle.lynx_codec.specs.declared.fault.DecodeFault.TheVariants as decoding
use Rattle.lynx_port.specs.declared.fault.PortFault.{PortFault}
use Rattle.lynx_port.specs.declared.fault.PortFault.TheVariants as faults

-- want of memory is its own fault
abbrev pub fault_of : DecodeFault → PortFault
fault_of decoding.Memory = faults.Memory
fault_of fault = faults.Bad fault
