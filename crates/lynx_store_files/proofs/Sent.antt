-- A keeper over a file may go to another thread. `search` alone stops too early at so deep a type, so the file is named, and
-- the keeper over it.
use denote.RattleType.{RattleType}
use denote.Param.Send.{IsSend, sendable}
use Rattle.sqlite_std_file.specs.contracts.host.Host as host
use Rattle.sqlite_std_file.specs.contracts.host.HostCalls.TheImpl as host_calls
use Rattle.sqlite_disk.specs.contracts.start.Unknown as unknown
use Rattle.sqlite_disk.specs.contracts.start.UnknownStart.TheImpl as unknown_start
use Rattle.sqlite_disk.specs.contracts.modelled.Modelled as modelled
use Rattle.sqlite_disk.specs.contracts.modelled.ModelledDisk.TheImpl as modelled_disk
use Rattle.sqlite_disk.proofs.modelled.Modelled.TheSendSync as modelled_sent
use Rattle.lynx_store_files.proofs.keeper.FileKeeper.TheSendSync as keeper_sent
use Rattle.lynx_store_files.specs.contracts.keeper.FileKeeper.{the_row}

abbrev file_row : RattleType
file_row = modelled.the_row host.the_row unknown.the_row host_calls.ghosts unknown_start.ghosts

host_send : IsSend host.the_row
host_send = search sendable depth 12

file_send : IsSend file_row
file_send = modelled_sent.the_send host.the_row unknown.the_row host_calls.ghosts unknown_start.ghosts host_send

pub keeper_send : IsSend (the_row file_row (modelled_disk.ghosts host.the_row unknown.the_row host_calls.ghosts modelled_disk.no_dict unknown_start.ghosts modelled_disk.no_dict modelled_disk.no_dict))
keeper_send = keeper_sent.the_send file_row (modelled_disk.ghosts host.the_row unknown.the_row host_calls.ghosts modelled_disk.no_dict unknown_start.ghosts modelled_disk.no_dict modelled_disk.no_dict) file_send
