use Rattle.std.specs.Prelude.{◌≡◌, ◌+◌, take, count_by}
use Rattle.link_frames.specs.Views.{handle_numbers}
use Rattle.fidl_names.specs.HandleNumber.{is_client}
use Rattle.link_admission.specs.Tables.{Makes}
use Rattle.link_admission.proofs.standings.Standings.make_all.Given as goal

abbrev pub invariant-loop-i : goal.invariant-loop-i
invariant-loop-i l = record {
  made : Makes (take l.i (handle_numbers l.handles)) l.fn.self.entries l.self.entries;
  live : l.self.live ≡ l.fn.self.live + count_by is_client (take l.i (handle_numbers l.handles));
}
