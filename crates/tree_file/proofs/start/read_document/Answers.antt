use Rattle.std.proofs.Common.{◌≡◌, true, false}
use Rattle.toml.proofs.Views.{view-Table}
use Rattle.toml.specs.View.{members_view}
use Rattle.tree_file.proofs.Views.{document-read, document-refused}
use Rattle.tree_file.proofs.start.read_document.Goals as goal

pub returns-in-Ok : goal.returns-in-Ok
returns-in-Ok c = record {
  read =
      rw (view-Table c.in-Ok.table)
      (document-read c.args.text.now (members_view c.in-Ok.table.entries) c.in-Ok.ensures.ok.0 c.in-Ok.ensures.ok.1);
  refused = tt;
}

pub returns-else-is_memory-clause-refused : goal.returns-else-is_memory-clause-refused
returns-else-is_memory-clause-refused c =
    document-refused c.args.text.now
    (c.in-Err.ensures.refused
    (λ memory.
    let told : c.is_memory.result ≡ true = c.is_memory.ensures.1 memory in
    let other : c.is_memory.result ≡ false = c.if-is_memory.false in
    cc))
