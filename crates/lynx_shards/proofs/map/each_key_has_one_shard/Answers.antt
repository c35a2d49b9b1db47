use Rattle.std.proofs.Common.{◌^◌, arith}
use Rattle.lynx_shards.proofs.Keeper.{one_has}
use Rattle.lynx_shards.proofs.map.each_key_has_one_shard.Goals as goal

pub returns : goal.returns
returns c = λ shards key covers fits. one_has 0 shards (2 ^ 64) key covers (omega arith) fits
