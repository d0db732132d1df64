-- The text is the letters of the set that it names, or of none.
use Rattle.std.proofs.Common.{◌≡◌, ℕ, ◌∙◌, sym, ap, if◌then◌else◌, Bool, Some, None, refl, true, false, nat_eq, List, [], ◌∷◌}
use Rattle.io_rights.specs.Operations.{set_of}
use Rattle.std.specs.Str.{bytes_eq}
use Rattle.io_rights.specs.Letters.{letters_of, named_in, rights_of}
use Rattle.io_rights.proofs.LetterTexts.{named-letters_of, is_named}
use Rattle.std.proofs.lemmas.Bool.{both_ways, and_from, eq-eqb}
use lib.Pointwise.{pointwise}
use Rattle.io_rights.proofs.texts.read_rights.Goals as goal

pointwise_self : (text : List ℕ) → pointwise nat_eq text text ≡ true
pointwise_self [] = refl
pointwise_self (byte ∷ text) = and_from (nat_eq byte byte) (pointwise nat_eq text text) (eq-eqb byte byte refl) (pointwise_self text)

pub returns-then-eq-clause-only : goal.returns-then-eq-clause-only
returns-then-eq-clause-only c =
    λ rights same.
    ap Some (c.named_in-rights.ensures ∙ ap (λ text. set_of (is_named text)) same ∙ named-letters_of rights)

pub returns-else-eq-clause-only : goal.returns-else-eq-clause-only
returns-else-eq-clause-only c =
    λ rights same.
    let named : c.named_in-rights.result ≡ rights =
    c.named_in-rights.ensures ∙ ap (λ text. set_of (is_named text)) same ∙ named-letters_of rights in
    let written : c.as_bytes.result.now ≡ c.args.text.now =
    c.as_bytes.ensures ∙ c.letters.ensures ∙ ap letters_of named ∙ sym same in
    absurd
    (both_ways c.eq.result c.if-eq.false
    (c.eq.ensures ∙ ap (λ bytes. pointwise nat_eq bytes c.args.text.now) written ∙ pointwise_self c.args.text.now))

-- whether what was written is the text decides
at_test : (text : List ℕ) (b : Bool) → bytes_eq (letters_of (named_in text)) text ≡ b → rights_of text ≡ (if b then Some (named_in text) else None)
unfolding rights_of
at_test text b e = rw e refl

pub returns-then-eq-clause-value : goal.returns-then-eq-clause-value
returns-then-eq-clause-value c =
    let written : c.as_bytes.result.now ≡ letters_of (named_in c.args.text.now) =
    c.as_bytes.ensures ∙ c.letters.ensures ∙ ap letters_of c.named_in-rights.ensures in
    ap Some c.named_in-rights.ensures
    ∙ sym
    (at_test c.args.text.now true
    (sym (ap (λ bytes. bytes_eq bytes c.args.text.now) written) ∙ sym c.eq.ensures ∙ c.if-eq.true))

pub returns-else-eq-clause-value : goal.returns-else-eq-clause-value
returns-else-eq-clause-value c =
    let written : c.as_bytes.result.now ≡ letters_of (named_in c.args.text.now) =
    c.as_bytes.ensures ∙ c.letters.ensures ∙ ap letters_of c.named_in-rights.ensures in
    sym
    (at_test c.args.text.now false
    (sym (ap (λ bytes. bytes_eq bytes c.args.text.now) written) ∙ sym c.eq.ensures ∙ c.if-eq.false))
