use Rattle.std.proofs.Common.{◌≡◌, ◌∙◌, ◌<◌, ◌%◌, ◌==◌, ℕ, ap, arith, cond, eqb, refl, sym, ⊎_elim}
use Rattle.std.specs.Int.{bit_at}
use Rattle.std.proofs.lemmas.Bool.{cases_eq, cond-true, cond-false, eq-eqb, ne_eqb}
use Rattle.std.proofs.lemmas.Nat.{mod_below}
use Rattle.link_admission.specs.declared.kinds.Standing.{Standing}
use Rattle.link_admission.specs.declared.kinds.Standing.TheVariants as standing
use Rattle.link_admission.specs.declared.page.Page.{Page}
use Rattle.link_admission.specs.Pages.{in_page}
use Rattle.link_admission.specs.Standings.{is_live, standing_back, standing_bits, standing_from}
use Rattle.link_admission.proofs.page.Page.replace.Goals as goal

live_bit : (s : Standing) → is_live s ≡ (standing_bits s).0
live_bit standing.Unused = refl
live_bit standing.Live = refl
live_bit standing.HungUp = refl
live_bit standing.Dead = refl

-- a page that differs from another in the two bits of a place
two_bits : (page new : Page) (s : Standing) (place n q : ℕ) → place ≡ n % 32 → (bit_at new.live place == 1) ≡ (standing_bits s).0 → (bit_at new.closed place == 1) ≡ (standing_bits s).1
    → ((i : ℕ) → i < 32 → (i ≡ place → ⊥) → bit_at new.live i ≡ bit_at page.live i) → ((i : ℕ) → i < 32 → (i ≡ place → ⊥) → bit_at new.closed i ≡ bit_at page.closed i)
    → in_page new q ≡ cond (eqb (q % 32) (n % 32)) s (in_page page q)
two_bits page new s place n q at live closed same_live same_closed =
    ⊎_elim
    (λ (here : q % 32 ≡ place).
    ap (λ (i : ℕ). standing_from (bit_at new.live i == 1, bit_at new.closed i == 1)) here
    ∙ (ap (λ b. standing_from (b, bit_at new.closed place == 1)) live
    ∙ (ap (λ b. standing_from ((standing_bits s).0, b)) closed
    ∙ (standing_back s ∙ sym (cond-true (eqb (q % 32) (n % 32)) s (in_page page q) (eq-eqb (q % 32) (n % 32) (here ∙ at)))))))
    (λ (other : q % 32 ≡ place → ⊥).
    ap (λ (bit : ℕ). standing_from (bit == 1, bit_at new.closed (q % 32) == 1)) (same_live (q % 32) (mod_below q 32 (omega arith)) other)
    ∙ (ap (λ (bit : ℕ). standing_from (bit_at page.live (q % 32) == 1, bit == 1)) (same_closed (q % 32) (mod_below q 32 (omega arith)) other)
    ∙ sym (cond-false (eqb (q % 32) (n % 32)) s (in_page page q) (ne_eqb (q % 32) (n % 32) (λ e. other (e ∙ sym at))))))
    (cases_eq (q % 32) place)

pub returns-clause-is : goal.returns-clause-is
returns-clause-is c = λ q.
    let live = c.with_bit-self.ensures in
    let closed = c.with_bit-self-2.ensures in
    two_bits c.args.self.now (record { live = c.with_bit-self.result; closed = c.with_bit-self-2.result }) c.args.standing c.place_of-place.result c.args.number q c.place_of-place.ensures
    (live.here ∙ (c.is_live.ensures ∙ live_bit c.args.standing)) (closed.here ∙ c.is_closed.ensures) live.others closed.others
