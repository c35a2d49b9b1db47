use Rattle.std.proofs.Common.{rules}
use Rattle.std.proofs.lemmas.Result.{err_from_is_err_and}
use Rattle.lynx_lex.specs.Lines.{texts}
use Rattle.lynx_lines.proofs.EventLemmas.{no_begin, no_deliver, no_lose, no_wake, no_restart}
use Rattle.lynx_lines.proofs.SpelledLemmas.{fails_so}
use Rattle.lynx_lines.proofs.script.read_event.Goals as goal

pub returns-in_err-server : goal.returns-in_err-server
returns-in_err-server c =
    let p = err_from_is_err_and c.from_residual.result c.from_residual.ensures.1 in
    rw (p.1, p.2) (fails_so c.in_err-server.field-0.0 _ _ (no_begin c.args.set.now (texts c.args.words.now) (texts c.in-Some.words.now) (search rules)) c.in_err-server.ensures)

pub returns-in_err-chain : goal.returns-in_err-chain
returns-in_err-chain c =
    let p = err_from_is_err_and c.from_residual-in_err-chain.result c.from_residual-in_err-chain.ensures.1 in
    rw (p.1, p.2) (fails_so c.in_err-chain.field-0.0 _ _ (no_deliver c.args.set.now (texts c.args.words.now) (texts c.in-Some.words.now) (search rules)) c.in_err-chain.ensures)

pub returns-in_err-lost : goal.returns-in_err-lost
returns-in_err-lost c =
    let p = err_from_is_err_and c.from_residual-in_err-lost.result c.from_residual-in_err-lost.ensures.1 in
    rw (p.1, p.2) (fails_so c.in_err-lost.field-0.0 _ _ (no_lose c.args.set.now (texts c.args.words.now) (texts c.in-Some.words.now) (search rules)) c.in_err-lost.ensures)

pub returns-in_err-woken : goal.returns-in_err-woken
returns-in_err-woken c =
    let p = err_from_is_err_and c.from_residual-in_err-woken.result c.from_residual-in_err-woken.ensures.1 in
    rw (p.1, p.2) (fails_so c.in_err-woken.field-0.0 _ _ (no_wake c.args.set.now (texts c.args.words.now) (texts c.in-Some.words.now) (search rules)) c.in_err-woken.ensures)

pub returns-in_err-restarted : goal.returns-in_err-restarted
returns-in_err-restarted c =
    let p = err_from_is_err_and c.from_residual-in_err-restarted.result c.from_residual-in_err-restarted.ensures.1 in
    rw (p.1, p.2) (fails_so c.in_err-restarted.field-0.0 _ _ (no_restart c.args.set.now (texts c.args.words.now) (texts c.in-Some.words.now) (search rules)) c.in_err-restarted.ensures)
