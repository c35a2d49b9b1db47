-- The owner that a heading stands for.
use Rattle.lynx_store.specs.declared.heading.Heading.{Heading}
use Rattle.lynx_store.specs.Stored.{Owner}

abbrev pub owner_in : Heading → Owner
owner_in heading =
    record { version = heading.version; server = heading.server.items; set = heading.set.items }
