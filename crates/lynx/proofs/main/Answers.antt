use denote.Param.Send.{IsSend, sendable}
use Rattle.lynx_store_files.proofs.Sent.{keeper_send}
use Rattle.lynx.proofs.main.Goals as goal

pub obey-status-requires-send-K : goal.obey-status-requires-send-K
obey-status-requires-send-K g c κs = search (sendable, keeper_send)
