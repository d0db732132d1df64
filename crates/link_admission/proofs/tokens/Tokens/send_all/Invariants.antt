use Rattle.std.specs.Prelude.{◌≡◌, take}
use Rattle.link_frames.specs.Views.{handle_numbers}
use Rattle.link_admission.specs.Tables.{Travels}
use Rattle.link_admission.proofs.tokens.Tokens.send_all.Given as goal

abbrev pub invariant-loop-i : goal.invariant-loop-i
invariant-loop-i l = record {
  changed : Travels (take l.i (handle_numbers l.handles)) l.fn.self.entries l.self.entries;
  count : l.self.out ≡ l.fn.self.out;
  next : l.self.next ≡ l.fn.self.next;
}
