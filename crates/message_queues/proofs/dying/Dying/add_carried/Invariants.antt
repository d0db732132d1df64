use Rattle.std.proofs.Common.{◌≡◌, ◌++◌, take}
use Rattle.std.specs.Prelude.{filter, not}
use Rattle.fidl_names.specs.HandleNumber.{is_client}
use Rattle.vfs_journal.specs.Handles.{numbers_of}
use Rattle.message_queues.specs.Steps.{Adds}
use Rattle.message_queues.proofs.dying.Dying.add_carried.Given as goal

abbrev pub invariant-loop-handle : goal.invariant-loop-handle
invariant-loop-handle l = record {
  found : Adds (filter is_client (take l.handle-index (numbers_of l.handle-items))) l.fn.self.found l.self.found;
  tokens : l.self.tokens ≡ l.fn.self.tokens ++ filter (λ number. not (is_client number)) (take l.handle-index (numbers_of l.handle-items));
}
