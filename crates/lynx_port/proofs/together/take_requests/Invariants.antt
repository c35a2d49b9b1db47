use Rattle.std.proofs.Common.{◌-◌, ◌<◌, length, None}
use Rattle.lynx_port.specs.inner.Steps.{Takes}
use Rattle.lynx_port.proofs.together.take_requests.Given as goal

abbrev pub invariant-loop-alloc : goal.invariant-loop-alloc
invariant-loop-alloc l = record {
  takes : Takes l.fn.feed.rest l.requests.items None l.feed.rest;
  few : length l.requests.items < 64;
}

abbrev pub decreases-loop-alloc : goal.decreases-loop-alloc
decreases-loop-alloc l = 64 - length l.requests.items
