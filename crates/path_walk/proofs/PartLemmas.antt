-- The last slash of a path, and that a path is its parent's path and its last name.
use Rattle.std.proofs.Common.{◌≡◌, ◌≢◌, ℕ, zero, suc, ◌+◌, ◌<◌, ◌≤◌, ◌==◌, Bool, true, false, if◌then◌else◌, List, [], ◌∷◌, ◌++◌, length, reverse, take, drop, get_or, Option, Some, None, All, refl, sym, ap, ◌∙◌, subst, arith, nat_lt, inl, inr, length-append}
use Rattle.std.specs.Prelude.{◌-◌, slice_get, unwrap_or}
use Rattle.std.specs.Option.{option_or, option_map}
use Rattle.std.proofs.Math.Seq.{take-append_seam}
use Rattle.std.specs.List.{slice_split, onto_first}
use Rattle.std.proofs.lemmas.Bool.{cases_Bool, ltb-false, eqb-false, eqb-true}
use Rattle.std.proofs.lemmas.List.{reverse-append, take-append-drop, drop_more, get_or-drop, length-drop}
use Rattle.std.proofs.lemmas.List.Elements.{All-nil, All-cons, All-head, All-contains, Contains-push, All-from_get_or}
use Rattle.std.proofs.lemmas.List.Splits.{slice_split_none, length-slice_split, slice_split-cons_yes, slice_split-cons_no, join_with_byte-slice_split}
use Rattle.fidl_names.specs.First.{cause_if}
use Rattle.fidl_names.specs.declared.limits.TheConstants as limit
use Rattle.fidl_names.proofs.FirstLaws.{first_of-none, cause_if-none}
use Rattle.path_walk.specs.declared.faults.PathFault.{PathFault}
use Rattle.path_walk.specs.declared.faults.PathFault.TheVariants as fault
use Rattle.path_walk.specs.Names.{slash, dot, holds, dot_fault, name_fault, IsName}
use Rattle.path_walk.specs.Parts.{parent_of, last_name, is_dot}
use Rattle.path_walk.specs.Paths.{names_of, text_of}
use Rattle.path_walk.proofs.NameLemmas.{dot_is_no_name}
use Rattle.path_walk.proofs.PathLemmas.{is_slash, same_bytes, names_of-other, names_of-at_dot, text_of-nil, text_of-joined}

-- ---- the last name of a text

-- what stands before the last slash
unfoldable pub before_last_slash : List ℕ → Option (List ℕ)
before_last_slash [] = None
before_last_slash (byte ∷ rest) = option_or (option_map (λ front. byte ∷ front) (before_last_slash rest)) (if byte == slash then Some [] else None)

-- a text without a slash, or one parted at its last slash
data Parted (text : List ℕ) : Type 0 where
  whole : before_last_slash text ≡ None → All (λ byte. is_slash byte ≡ false) text → Parted text
  parted : (front back : List ℕ) → before_last_slash text ≡ Some front → text ≡ front ++ slash ∷ back → All (λ byte. is_slash byte ≡ false) back → Parted text

parted_by : (byte : ℕ) (rest : List ℕ) → Parted rest → (b : Bool) → is_slash byte ≡ b → Parted (byte ∷ rest)
unfolding before_last_slash
parted_by byte rest (whole e h) true is = parted [] rest (rw (e, is)) (ap (λ first. first ∷ rest) (eqb-true byte slash is)) h
parted_by byte rest (whole e h) false is = whole (rw (e, is)) (All-cons (λ b. is_slash b ≡ false) byte rest is h)
parted_by byte rest (parted front back e same h) b is = parted (byte ∷ front) back (rw e) (ap (λ more. byte ∷ more) same) h

parted_at : (text : List ℕ) → Parted text
unfolding before_last_slash
parted_at [] = whole refl (All-nil (λ byte. is_slash byte ≡ false))
parted_at (byte ∷ rest) = parted_by byte rest (parted_at rest) (is_slash byte) refl

onto_push : (byte : ℕ) (parts : List (List ℕ)) (back : List ℕ) → 1 ≤ length parts → onto_first byte (parts ++ back ∷ []) ≡ onto_first byte parts ++ back ∷ []
onto_push byte [] back some = absurd (omega arith)
onto_push byte (part ∷ parts) back some = refl

split_by : (byte : ℕ) (front back : List ℕ) → slice_split is_slash (front ++ slash ∷ back) ≡ slice_split is_slash front ++ back ∷ [] → (b : Bool) → is_slash byte ≡ b →
    slice_split is_slash ((byte ∷ front) ++ slash ∷ back) ≡ slice_split is_slash (byte ∷ front) ++ back ∷ []
split_by byte front back rest true is =
    slice_split-cons_yes is_slash byte (front ++ slash ∷ back) is ∙ ap (λ parts. [] ∷ parts) rest
    ∙ ap (λ parts. parts ++ back ∷ []) (sym (slice_split-cons_yes is_slash byte front is))
split_by byte front back rest false is =
    let some : 1 ≤ length (slice_split is_slash front) = rw (length-slice_split is_slash front) (omega arith) in
    slice_split-cons_no is_slash byte (front ++ slash ∷ back) is ∙ ap (onto_first byte) rest ∙ onto_push byte (slice_split is_slash front) back some
    ∙ ap (λ parts. parts ++ back ∷ []) (sym (slice_split-cons_no is_slash byte front is))

-- the parts of a text but for the last are those of its front
split_last : (front back : List ℕ) → All (λ byte. is_slash byte ≡ false) back → slice_split is_slash (front ++ slash ∷ back) ≡ slice_split is_slash front ++ back ∷ []
split_last [] back h = ap (λ parts. [] ∷ parts) (slice_split_none is_slash back h)
split_last (byte ∷ front) back h = split_by byte front back (split_last front back h) (is_slash byte) refl

last_of : (names : List (List ℕ)) (name : List ℕ) → unwrap_or (slice_get (reverse (names ++ name ∷ [])) 0) [] ≡ name
last_of names name = ap (λ turned. unwrap_or (slice_get turned 0) []) (reverse-append names (name ∷ []))

pub last_whole : (text : List ℕ) → is_dot text ≡ false → All (λ byte. is_slash byte ≡ false) text → last_name text ≡ text
last_whole text below h =
    ap (λ names. unwrap_or (slice_get (reverse names) 0) []) (names_of-other text below ∙ slice_split_none is_slash text h)

pub last_parted : (text front back : List ℕ) → is_dot text ≡ false → text ≡ front ++ slash ∷ back → All (λ byte. is_slash byte ≡ false) back → last_name text ≡ back
last_parted text front back below same h =
    ap (λ names. unwrap_or (slice_get (reverse names) 0) []) (names_of-other text below ∙ ap (slice_split is_slash) same ∙ split_last front back h)
    ∙ last_of (slice_split is_slash front) back

-- ---- the parent of a text

abbrev parent_from : List (List ℕ) → List ℕ
parent_from names = text_of (take (length names - 1) names)

parent_is : (text : List ℕ) → parent_of text ≡ parent_from (names_of text)
unfolding parent_of
parent_is text = refl

parent_whole : (text : List ℕ) → All (λ byte. is_slash byte ≡ false) text → parent_of text ≡ dot
parent_whole text h =
    elim (cases_Bool (is_dot text)) [
      | inl same ↦ parent_is text ∙ ap parent_from (names_of-at_dot text same) ∙ text_of-nil
      | inr other ↦
          parent_is text ∙ ap parent_from (names_of-other text other ∙ slice_split_none is_slash text h) ∙ text_of-nil
    ]

-- a text with a slash is not `.`
no_dot_parted : (front back : List ℕ) → is_dot (front ++ slash ∷ back) ≡ false
no_dot_parted front back =
    elim (cases_Bool (is_dot (front ++ slash ∷ back))) [
      | inl same ↦ absurd (slash_is_no_dot front back (same_bytes (front ++ slash ∷ back) dot same))
      | inr other ↦ other
    ] where
      slash_is_no_dot : (front back : List ℕ) → front ++ slash ∷ back ≡ dot → ⊥
      slash_is_no_dot [] back e = let first : 47 ≡ 46 = ap (λ (t : List ℕ). get_or t 0 0) e in omega (arith, first)
      slash_is_no_dot (byte ∷ front) back e = let n = ap length e in omega (arith, n, length-append front (slash ∷ back))

without_last : (parts : List (List ℕ)) (last : List ℕ) → take (length (parts ++ last ∷ []) - 1) (parts ++ last ∷ []) ≡ parts
without_last parts last =
    let n : length (parts ++ last ∷ []) - 1 ≡ length parts = omega (arith, length-append parts (last ∷ [])) in
    ap (λ k. take k (parts ++ last ∷ [])) n ∙ take-append_seam parts (last ∷ [])

parent_parted : (text front back : List ℕ) → text ≡ front ++ slash ∷ back → All (λ byte. is_slash byte ≡ false) back → parent_of text ≡ front
parent_parted text front back same h =
    let some : 1 ≤ length (slice_split is_slash front) = rw (length-slice_split is_slash front) (omega arith) in
    ap parent_of same ∙ parent_is (front ++ slash ∷ back)
    ∙ ap parent_from (names_of-other (front ++ slash ∷ back) (no_dot_parted front back) ∙ split_last front back h)
    ∙ ap text_of (without_last (slice_split is_slash front) back)
    ∙ text_of-joined (slice_split is_slash front) some
    ∙ join_with_byte-slice_split slash front

-- the parent is what stands before the last slash, or `.`
pub parent_before : (text : List ℕ) → parent_of text ≡ unwrap_or (before_last_slash text) dot
parent_before text = by_parts (parted_at text) where
  by_parts : Parted text → parent_of text ≡ unwrap_or (before_last_slash text) dot
  by_parts (whole e h) = rw e (parent_whole text h)
  by_parts (parted front back e same h) = rw e (parent_parted text front back same h)

-- ---- what a path is

pub name_short : (name : List ℕ) → IsName name → (1 ≤ length name) × (length name ≤ 255)
unfolding name_fault
name_short name h =
    let later : List (Option PathFault) = cause_if (holds 0 name) fault.ZeroByte ∷ cause_if (holds slash name) fault.Slash ∷ dot_fault name ∷ [] in
    let a = first_of-none (cause_if (length name == 0) fault.EmptyName) (cause_if (nat_lt limit.MAX_NAME (length name)) fault.NameTooLong ∷ later) h in
    let b = first_of-none (cause_if (nat_lt limit.MAX_NAME (length name)) fault.NameTooLong) later a.1 in
    let some : length name ≢ 0 = eqb-false (length name) 0 (cause_if-none (length name == 0) fault.EmptyName a.0) in
    (omega arith, ltb-false limit.MAX_NAME (length name) (cause_if-none (nat_lt limit.MAX_NAME (length name)) fault.NameTooLong b.0))

abbrev pub joined : List ℕ → List ℕ → List ℕ
joined parent name = if is_dot parent then name else parent ++ slash ∷ name

no_dot_front : (text front back : List ℕ) → is_dot text ≡ false → text ≡ front ++ slash ∷ back → All (λ byte. is_slash byte ≡ false) back → All IsName (names_of text) → is_dot front ≡ false
no_dot_front text front back below same h valid = by_test (is_dot front) refl where
  by_test : (b : Bool) → is_dot front ≡ b → is_dot front ≡ false
  by_test false is = is
  by_test true is =
      let parts : names_of text ≡ dot ∷ back ∷ [] =
      names_of-other text below ∙ ap (slice_split is_slash) (same ∙ ap (λ first. first ++ slash ∷ back) (same_bytes front dot is)) ∙ split_last dot back h in
      absurd (dot_is_no_name (All-head IsName dot (back ∷ []) (subst (All IsName) parts valid)))

pub path_joined : (text : List ℕ) → is_dot text ≡ false → All IsName (names_of text) → text ≡ joined (parent_of text) (last_name text)
path_joined text below valid = subst (λ parent. text ≡ joined parent (last_name text)) (sym (parent_before text)) (by_parts (parted_at text)) where
  by_parts : Parted text → text ≡ joined (unwrap_or (before_last_slash text) dot) (last_name text)
  by_parts (whole e h) = rw e (sym (last_whole text below h))
  by_parts (parted front back e same h) =
      rw (e, no_dot_front text front back below same h valid) (same ∙ ap (λ name. front ++ slash ∷ name) (sym (last_parted text front back below same h)))

-- a path is found again from its parent's path and its last name
pub same_path : (a b : List ℕ) → is_dot a ≡ false → is_dot b ≡ false → All IsName (names_of a) → All IsName (names_of b) → parent_of a ≡ parent_of b → last_name a ≡ last_name b → a ≡ b
same_path a b below_a below_b valid_a valid_b parents names =
    path_joined a below_a valid_a ∙ ap (λ parent. joined parent (last_name a)) parents ∙ ap (joined (parent_of b)) names ∙ sym (path_joined b below_b valid_b)

pub last_valid : (text : List ℕ) → is_dot text ≡ false → All IsName (names_of text) → IsName (last_name text)
last_valid text below valid = by_parts (parted_at text) where
  by_parts : Parted text → IsName (last_name text)
  by_parts (whole e h) =
      let names : names_of text ≡ text ∷ [] = names_of-other text below ∙ slice_split_none is_slash text h in
      subst IsName (sym (last_whole text below h)) (All-head IsName text [] (subst (All IsName) names valid))
  by_parts (parted front back e same h) =
      let names : names_of text ≡ slice_split is_slash front ++ back ∷ [] = names_of-other text below ∙ ap (slice_split is_slash) same ∙ split_last front back h in
      subst IsName (sym (last_parted text front back below same h))
      (All-contains IsName (slice_split is_slash front ++ back ∷ []) back (subst (All IsName) names valid) (Contains-push (slice_split is_slash front) back))

-- ---- the last slash, as its place tells it

not_slash : (b : Bool) → (b ≡ true → ⊥) → b ≡ false
not_slash true other = absurd (other refl)
not_slash false other = refl

pub no_slash : (text : List ℕ) → ((k : ℕ) → k < length text → (get_or text k 0 == 47) ≡ true → ⊥) → before_last_slash text ≡ None
unfolding before_last_slash
no_slash [] nowhere = refl
no_slash (byte ∷ rest) nowhere =
    rw (no_slash rest (λ k within at. nowhere (suc k) (omega arith) at), not_slash (byte == 47) (nowhere 0 (omega arith)))

pub last_slash : (text : List ℕ) (k : ℕ) → k < length text → (get_or text k 0 == 47) ≡ true → ((j : ℕ) → k + 1 ≤ j → j < length text → (get_or text j 0 == 47) ≡ true → ⊥) → before_last_slash text ≡ Some (take k text)
unfolding before_last_slash
last_slash [] k within at after = absurd (omega arith)
last_slash (byte ∷ rest) zero within at after =
    rw (no_slash rest (λ j below is. after (suc j) (omega arith) (omega arith) is), at)
last_slash (byte ∷ rest) (suc k) within at after =
    rw (last_slash rest k (omega arith) at (λ j past below is. after (suc j) (omega arith) (omega arith) is))

pub last_of_whole : (text : List ℕ) → is_dot text ≡ false → ((k : ℕ) → k < length text → (get_or text k 0 == 47) ≡ true → ⊥) → last_name text ≡ text
last_of_whole text below nowhere =
    last_whole text below (All-from_get_or (λ byte. is_slash byte ≡ false) text 0 (λ k within. not_slash (get_or text k 0 == 47) (nowhere k within)))

pub last_behind : (text : List ℕ) (k : ℕ) → is_dot text ≡ false → k < length text → (get_or text k 0 == 47) ≡ true → ((j : ℕ) → k + 1 ≤ j → j < length text → (get_or text j 0 == 47) ≡ true → ⊥) →
    last_name text ≡ drop (k + 1) text
last_behind text k below within at after =
    let byte : get_or text k 0 ≡ slash = eqb-true (get_or text k 0) slash at in
    let parts : text ≡ take k text ++ slash ∷ drop (k + 1) text =
    sym (take-append-drop k text) ∙ ap (λ rest. take k text ++ rest) (drop_more text k 0 within ∙ ap (λ (b : ℕ). b ∷ drop (k + 1) text) byte) in
    last_parted text (take k text) (drop (k + 1) text) below parts
    (All-from_get_or (λ b. is_slash b ≡ false) (drop (k + 1) text) 0
    (λ j inside.
    let size = length-drop (k + 1) text in
    rw (get_or-drop (k + 1) text j 0) (not_slash (get_or text (k + 1 + j) 0 == 47) (after (k + 1 + j) (omega arith) (omega arith)))))
