use Rattle.lynx_store_files.proofs.files.FilesStoresFileKeeperFile.close.Goals as goal

pub returns : goal.returns
returns c = record { told = λ _. (c.in_ok-close.field-0, c.in_ok-close.ensures) }
