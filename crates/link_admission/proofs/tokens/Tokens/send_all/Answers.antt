use Rattle.std.proofs.Common.{◌≡◌, ◌<◌, ◌∷◌, [], length, ap, sym, subst, ◌∙◌, arith, List, ℕ}
use Rattle.std.proofs.lemmas.List.{take_all}
use Rattle.link_admission.specs.Tables.{Numbered, Travels}
use Rattle.link_frames.specs.Views.{handle_numbers}
use Rattle.link_admission.proofs.Made.{none_travels, one_travels, travels_more}
use Rattle.link_admission.proofs.tokens.Tokens.send_all.Goals as goal
use Rattle.link_admission.proofs.tokens.Tokens.send_all.Goals.{then-not-is_client, else-not-is_client}

pub loop-i-preserved : goal.loop-i-preserved
loop-i-preserved c =
    let n = c.at-number.result in
    let ns = handle_numbers c.args.handles in
    let old = c.loop-i.self in
    let new = c.if-not-is_client.self in
    let low : c.loop-i.i < length ns = omega (arith, c.loop-i-test.true, c.len-i-end.ensures) in
    let one : Travels (n ∷ []) old.entries new.entries × (new.out ≡ old.out) × (new.next ≡ old.next) =
    elim c.if-not-is_client.branch [
      | then-not-is_client w ↦ subst (λ (t : Numbered). Travels (n ∷ []) old.entries t.entries × (t.out ≡ old.out) × (t.next ≡ old.next)) (sym w.self-is)
          (one_travels n old.entries w.send.new.self.entries (sym c.is_client.ensures ∙ w.if-not-is_client.true) w.send.ensures.changed, w.send.ensures.count, w.send.ensures.next)
      | else-not-is_client w ↦ (
        none_travels n old.entries new.entries (sym c.is_client.ensures ∙ w.if-not-is_client.false) (ap (λ (t : Numbered). t.entries) w.self-is),
        ap (λ (t : Numbered). t.out) w.self-is,
        ap (λ (t : Numbered). t.next) w.self-is,
      )
    ] in
    record {
      changed = travels_more c.loop-i.i ns c.args.self.now.entries old.entries new.entries low c.loop-i.invariant.changed (subst (λ (m : ℕ). Travels (m ∷ []) old.entries new.entries) c.at-number.ensures one.0);
      count = one.1 ∙ c.loop-i.invariant.count;
      next = one.2 ∙ c.loop-i.invariant.next;
    }

pub returns : goal.returns
returns c = record {
  changed = subst (λ (numbers : List ℕ). Travels numbers c.args.self.now.entries c.loop-i.self.entries) (take_all c.loop-i.i (handle_numbers c.args.handles) (omega (arith, c.loop-i-test.false, c.len-i-end.ensures))) c.loop-i.invariant.changed;
  count = c.loop-i.invariant.count;
  next = c.loop-i.invariant.next;
}
