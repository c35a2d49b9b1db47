-- Where stores are.
use Rattle.std.specs.Prelude.{ℕ, List, codes, ◌++◌}
use Rattle.std.specs.Fmt.{decimal}

-- the store of a server in a folder
abbrev pub store_path : List ℕ → ℕ → List ℕ
store_path folder server = folder ++ codes "/server-" ++ decimal server ++ codes ".lynx"
