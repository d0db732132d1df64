-- Bytes, handles and labels as text.
use Rattle.std.proofs.Common.{◌≡◌, ℕ, zero, suc, ◌+◌, ◌<◌, ◌≤◌, ◌==◌, Bool, true, false, List, [], ◌∷◌, ◌++◌, length, map, get_or, take, drop, Option, Some, None, refl, sym, ap, ◌∙◌, inl, inr, arith, append_assoc}
use Rattle.std.specs.Prelude.{decimal, slice_get}
use Rattle.std.specs.List.{find, join_with_byte}
use Rattle.std.proofs.lemmas.Bool.{cases_Bool, eq-eqb, eqb-true, le-ltb, ne_eqb}
use Rattle.std.proofs.lemmas.List.{take_more}
use Rattle.std.proofs.lemmas.Option.{same_Some}
use Rattle.hex.specs.Hex.{encode_lower}
use Rattle.fidl_names.specs.Numbers.{number_at}
use Rattle.fidl_names.specs.declared.methods.Method.{Method}
use Rattle.fidl_names.specs.declared.methods.Method.TheVariants as method
use Rattle.fidl_wire.specs.Names.{event_ordinal, method_ordinal, row_of}
use Rattle.fidl_wire.specs.Epitaphs.{epitaph_ordinal}
use Rattle.io_messages.specs.Protocols.{all_methods}
use Rattle.io_messages.specs.Replies.{method_with}
use Rattle.vfs_script.specs.Transcripts.{bytes_text, handles_text, label_of, label_or_raw, label_with}
use Rattle.vfs_script.specs.Words.{comma, none_word}

-- ---- texts that grow

-- what stood in front of one step stands in front of the next
pub grown : (a b c : List ℕ) → take (length a) b ≡ a → take (length b) c ≡ b → take (length a) c ≡ a
grown [] b c h k = refl
grown (x ∷ a) [] c h k = cc
grown (x ∷ a) (y ∷ b) [] h k = cc
grown (x ∷ a) (y ∷ b) (z ∷ c) h k =
    ap (λ t. z ∷ t) (grown a b c (ap (drop 1) h) (ap (drop 1) k)) ∙ ap (λ first. first ∷ a) (ap (λ l. get_or l 0 0) k ∙ ap (λ l. get_or l 0 0) h)

-- what stood there stands in front of what is put behind it
pub front_kept : (a b : List ℕ) → take (length a) (a ++ b) ≡ a
front_kept [] b = refl
front_kept (x ∷ a) b = ap (λ t. x ∷ t) (front_kept a b)

-- one text behind another
pub three_put : (a b c d x y z : List ℕ) → b ≡ a ++ x → c ≡ b ++ y → d ≡ c ++ z → d ≡ a ++ (x ++ y ++ z)
three_put a b c d x y z first second third = rw (third, second, first) (simp append_assoc)

-- the last line of a transcript
pub counts_put : (a b c d label n other m end : List ℕ) → b ≡ a ++ label ++ n → c ≡ b ++ other ++ m → d ≡ c ++ end → d ≡ a ++ (label ++ n ++ other ++ m ++ end)
counts_put a b c d label n other m end first second third = rw (third, second, first) (simp append_assoc)

-- what stands behind the number of a message's endpoint
pub message_put : (a b c d e front kind label handles space bytes : List ℕ) → b ≡ a ++ front → front ≡ kind ++ label ++ space → c ≡ b ++ handles → d ≡ c ++ space → e ≡ d ++ bytes →
    e ≡ a ++ (kind ++ label ++ space ++ handles ++ space ++ bytes)
message_put a b c d e front kind label handles space bytes first is second third last = rw (last, third, second, first, is) (simp append_assoc)

-- ---- bytes

pub bytes_text-some : (bytes : List ℕ) → 0 < length bytes → bytes_text bytes ≡ encode_lower bytes
unfolding bytes_text
bytes_text-some [] h = absurd (omega arith)
bytes_text-some (first ∷ bytes) h = refl

pub bytes_text-none : bytes_text [] ≡ none_word
unfolding bytes_text
bytes_text-none = refl

pub bytes_text-empty : (bytes : List ℕ) → (length bytes == 0) ≡ true → bytes_text bytes ≡ none_word
bytes_text-empty [] h = bytes_text-none
bytes_text-empty (first ∷ bytes) h = absurd (let none = eqb-true (length (first ∷ bytes)) 0 h in omega (arith, none))

pub bytes_text-other : (bytes : List ℕ) → (length bytes == 0) ≡ false → bytes_text bytes ≡ encode_lower bytes
bytes_text-other [] h = cc
bytes_text-other (first ∷ bytes) h = bytes_text-some (first ∷ bytes) (omega arith)

-- ---- handles

join_more : (x y : List ℕ) (xs : List (List ℕ)) → join_with_byte comma (x ∷ (xs ++ y ∷ [])) ≡ join_with_byte comma (x ∷ xs) ++ comma ∷ y
join_more x y [] = refl
join_more x y (z ∷ xs) = ap (λ t. x ++ comma ∷ t) (join_more z y xs) ∙ sym (append_assoc x (comma ∷ join_with_byte comma (z ∷ xs)) (comma ∷ y))

map_more : (xs : List ℕ) (y : ℕ) → map decimal (xs ++ y ∷ []) ≡ map decimal xs ++ decimal y ∷ []
map_more [] y = refl
map_more (x ∷ xs) y = ap (λ t. decimal x ∷ t) (map_more xs y)

handles_text-more : (numbers : List ℕ) (number : ℕ) → 0 < length numbers → handles_text (numbers ++ number ∷ []) ≡ handles_text numbers ++ comma ∷ decimal number
unfolding handles_text
handles_text-more [] number h = absurd (omega arith)
handles_text-more (first ∷ numbers) number h =
    ap (λ t. join_with_byte comma (decimal first ∷ t)) (map_more numbers number) ∙ join_more (decimal first) (decimal number) (map decimal numbers)

some_taken : (i : ℕ) (numbers : List ℕ) → 0 < i → i < length numbers → 0 < length (take i numbers)
some_taken zero numbers h lt = absurd (omega arith)
some_taken (suc i) [] h lt = absurd (omega arith)
some_taken (suc i) (first ∷ numbers) h lt = omega arith

-- one handle more
pub handles_step : (i : ℕ) (numbers : List ℕ) → 0 < i → i < length numbers →
    handles_text (take (i + 1) numbers) ≡ handles_text (take i numbers) ++ comma ∷ decimal (get_or numbers i 0)
handles_step i numbers some lt =
    ap handles_text (take_more numbers i 0 lt) ∙ handles_text-more (take i numbers) (get_or numbers i 0) (some_taken i numbers some lt)

-- a comma and one handle more
pub handles_grow : (a to new : List ℕ) (i n : ℕ) (numbers : List ℕ) → to ≡ a ++ handles_text (take i numbers) → n ≡ get_or numbers i 0 → new ≡ (to ++ comma ∷ []) ++ decimal n →
    0 < i → i < length numbers → new ≡ a ++ handles_text (take (i + 1) numbers)
handles_grow a to new i n numbers e1 e2 e3 some lt =
    rw (e3, e1, e2, handles_step i numbers some lt)
    (append_assoc (a ++ handles_text (take i numbers)) (comma ∷ []) (decimal (get_or numbers i 0))
    ∙ append_assoc a (handles_text (take i numbers)) (comma ∷ decimal (get_or numbers i 0)))

-- ---- labels

module _ (test : Method → Bool) where
  find_at : (methods : List Method) (i : ℕ) (m : Method) → slice_get methods i ≡ Some m → test m ≡ true → ((n : Method) → test n ≡ true → n ≡ m) → find test methods ≡ Some m
  find_at [] i m at passes only = cc
  find_at (first ∷ methods) zero m at passes only =
      let same : first ≡ m = same_Some first m at in
      rw (ap test same ∙ passes) (ap Some same)
  find_at (first ∷ methods) (suc i) m at passes only =
      elim (cases_Bool (test first)) [
        | inl passed ↦ rw passed (ap Some (only first passed))
        | inr other ↦ rw other (find_at methods i m at passes only)
      ]

  find_none : (methods : List Method) → ((n : Method) → test n ≡ true → ⊥) → find test methods ≡ None
  find_none [] none = refl
  find_none (first ∷ methods) none =
      elim (cases_Bool (test first)) [
        | inl passed ↦ absurd (none first passed)
        | inr other ↦ rw other (find_none methods none)
      ]

-- each method has its place
at_row : (m : Method) → slice_get all_methods (row_of m) ≡ Some m
at_row method.Clone = refl
at_row method.Close = refl
at_row method.Query = refl
at_row method.GetAttributes = refl
at_row method.Sync = refl
at_row method.OpenPath = refl
at_row method.ReadDirents = refl
at_row method.Rewind = refl
at_row method.GetToken = refl
at_row method.Rename = refl
at_row method.Link = refl
at_row method.Unlink = refl
at_row method.Watch = refl
at_row method.Read = refl
at_row method.ReadAt = refl
at_row method.Write = refl
at_row method.WriteAt = refl
at_row method.Seek = refl
at_row method.Resize = refl
at_row method.EchoString = refl

abbrev has_ordinal : ℕ → Method → Bool
has_ordinal ordinal m = method_ordinal m == ordinal

pub method_with-found : (ordinal : ℕ) (m : Method) → method_ordinal m ≡ ordinal → ((n : Method) → method_ordinal n ≡ ordinal → n ≡ m) → method_with ordinal ≡ Some m
unfolding method_with
method_with-found ordinal m is only =
    find_at (has_ordinal ordinal) all_methods (row_of m) m (at_row m) (eq-eqb (method_ordinal m) ordinal is)
    (λ n passes. only n (eqb-true (method_ordinal n) ordinal passes))

pub method_with-none : (ordinal : ℕ) → ((n : Method) → method_ordinal n ≡ ordinal → ⊥) → method_with ordinal ≡ None
unfolding method_with
method_with-none ordinal none = find_none (has_ordinal ordinal) all_methods (λ n passes. none n (eqb-true (method_ordinal n) ordinal passes))

pub label_with-other : (ordinal event : ℕ) (found : Option Method) → (ordinal ≡ epitaph_ordinal → ⊥) → event ≡ event_ordinal → (ordinal ≡ event → ⊥) → method_with ordinal ≡ found →
    label_with ordinal ≡ label_or_raw found
label_with-other ordinal event found no_epitaph is no_event e =
    rw (ne_eqb ordinal epitaph_ordinal no_epitaph, ne_eqb ordinal event_ordinal (λ same. no_event (same ∙ sym is)), e) refl

-- the label of a message with a header
pub label_read : (bytes : List ℕ) (ordinal : ℕ) → 16 ≤ length bytes → get_or bytes 7 0 ≡ 1 → ordinal ≡ number_at 8 8 bytes → label_with ordinal ≡ label_of bytes
unfolding label_of
label_read bytes ordinal long magic e = rw (le-ltb (length bytes) 16 long, magic) (ap label_with e)
