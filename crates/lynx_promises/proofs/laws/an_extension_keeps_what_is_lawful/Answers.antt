use Rattle.lynx_promises.proofs.Extended.{extended_lawful, extended_legal, extended_message, extended_turns}
use Rattle.lynx_promises.proofs.laws.an_extension_keeps_what_is_lawful.Goals as goal

pub returns-clause-lawful : goal.returns-clause-lawful
returns-clause-lawful c = extended_lawful

pub returns-clause-legal : goal.returns-clause-legal
returns-clause-legal c = extended_legal

pub returns-clause-turns : goal.returns-clause-turns
returns-clause-turns c = extended_turns

pub returns-clause-messages : goal.returns-clause-messages
returns-clause-messages c = extended_message
