use Rattle.lynx_cli.proofs.looking.read_at.Goals as goal

pub returns-in-Ok-inspect : goal.returns-in-Ok-inspect
returns-in-Ok-inspect g c = record {
  copy = c.in-Ok.copy;
  from = c.in-Ok.ensures;
  read = c.inspect.new.conn;
  kept = c.in-Ok-inspect.ensures.ok;
}
