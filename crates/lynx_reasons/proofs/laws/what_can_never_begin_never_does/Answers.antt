use Rattle.lynx_reasons.proofs.Begins.{never_anew, never_answered, never_lawful}
use Rattle.lynx_reasons.proofs.laws.what_can_never_begin_never_does.Goals as goal

pub returns : goal.returns
returns c = record {
  anew = λ set server history request seen at is words first. (never_anew set server history request seen at is words first).0;
  added = λ set server history request seen at is words first. (never_anew set server history request seen at is words first).1;
  lawful = never_lawful;
  told = never_answered;
}
