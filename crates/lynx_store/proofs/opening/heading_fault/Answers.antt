use Rattle.std.proofs.Common.{◌≡◌, ◌≢◌, inl, inr, rules}
use Rattle.lynx_sql.specs.Contents.{title_of}
use Rattle.lynx_store.specs.Stored.{version_text}
use Rattle.lynx_store.proofs.opening.heading_fault.Goals as goal

pub returns-then-ne-clause-other_version : goal.returns-then-ne-clause-other_version
returns-then-ne-clause-other_version c is =
    let apart : c.in-Some.version.now ≢ version_text c.args.heading.now.version = search rules in
    (title_of c.in-Some.version.now c.in-Some.server.now c.in-Some.set.now, c.in-Some.ensures.some, apart)

pub returns-then-ne-2-clause-other_set : goal.returns-then-ne-2-clause-other_set
returns-then-ne-2-clause-other_set c is =
    let version : c.in-Some.version.now ≡ version_text c.args.heading.now.version = search rules in
    let apart : c.in-Some.server.now ≢ c.args.heading.now.server.items = search rules in
    (title_of c.in-Some.version.now c.in-Some.server.now c.in-Some.set.now, c.in-Some.ensures.some, version, inl apart)

pub returns-then-ne-3-clause-other_set : goal.returns-then-ne-3-clause-other_set
returns-then-ne-3-clause-other_set c is =
    let version : c.in-Some.version.now ≡ version_text c.args.heading.now.version = search rules in
    let apart : c.in-Some.set.now ≢ c.args.heading.now.set.items = search rules in
    (title_of c.in-Some.version.now c.in-Some.server.now c.in-Some.set.now, c.in-Some.ensures.some, version, inr apart)
