use Rattle.sqlite.specs.Files.{file_state}
use Rattle.lynx_store_files.proofs.Copied.{found_in}
use Rattle.lynx_store_files.proofs.copies.copy_of.Goals as goal

pub returns-in-Ok : goal.returns-in-Ok
returns-in-Ok c = λ clean.
    let found = c.in-Ok.ensures.found clean in
    found_in c.in_ok-file_of.field-0.bytes.items c.in_ok-file_of-2.field-0.bytes.items c.args.log.now c.args.file.now (file_state c.in-Ok.copy)
    c.in_ok-file_of.ensures.0 c.in_ok-file_of-2.ensures.0 (record { holds = found.holds; reads = found.reads })
