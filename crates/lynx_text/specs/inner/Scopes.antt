-- What an action may name, without its borrows.
use Rattle.lynx_text.specs.declared.scope.Scope.{Scope}
use Rattle.lynx_set.specs.Scopes.{PlainScope}

-- what a scope says
abbrev pub plain_scope : Scope → PlainScope
plain_scope scope = record {
  version = scope.set.now.version;
  tables = scope.set.now.tables;
  shards = scope.set.now.shards;
  parameters = scope.parameters;
  names = scope.names.now;
  is_first = scope.is_first;
  server = scope.server;
  actions = scope.actions;
}
