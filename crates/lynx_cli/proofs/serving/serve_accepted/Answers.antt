use Rattle.lynx_cli.proofs.serving.serve_accepted.Goals as goal

pub status_of_order-requires : goal.status_of_order-requires
status_of_order-requires g c = c.in_ok-ended.ensures.served.ordered c.requires.accepts.is_set c.requires.accepts.accepted

pub returns : goal.returns
returns g c = record {
  chains = c.args.set.now;
  accepts = c.requires.accepts;
  served = c.in_ok-ended.ensures.served;
  order = c.in_ok-ended.ensures.served.ordered c.requires.accepts.is_set c.requires.accepts.accepted;
  status_is = c.status_of_order.ensures;
}
