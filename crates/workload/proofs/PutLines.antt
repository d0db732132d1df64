-- Lines that are put word by word.
use Rattle.std.proofs.Common.{◌≡◌, ℕ, suc, ◌/◌, ◌^◌, List, [], ◌∷◌, ◌++◌, codes, sym, ap, ◌∙◌, append_assoc, append-nil, ◌≤◌, le_antisymm}
use Rattle.std.proofs.lemmas.List.Concat.{flat_map-append}
use Rattle.workload.specs.Workload.{Words, drawn, first_lines, line_text, next_state, round, rounds_up_to, state_of, texts, workload}

pub file_opened : (to a b c d dir file flags e : List ℕ) → a ≡ to ++ codes "open 1 " ++ dir → b ≡ a ++ codes "/" → c ≡ b ++ file →
    d ≡ c ++ codes " " ++ flags ++ codes " " ++ e ++ codes "\n" →
    d ≡ to ++ texts ((codes "open" ∷ codes "1" ∷ (dir ++ codes "/" ++ file) ∷ flags ∷ e ∷ []) ∷ [])
file_opened to a b c d dir file flags e p q r s = rw (s, r, q, p) (simp (append_assoc, append-nil))

-- the line of what is asked, with fields behind
pub asked_more : (to a b c verb e fields : List ℕ) (first last : Words) → a ≡ to ++ texts (first ∷ []) → b ≡ a ++ verb ++ codes " " ++ e → c ≡ b ++ fields →
    line_text last ≡ verb ++ codes " " ++ e ++ fields → c ≡ to ++ texts (first ∷ last ∷ [])
asked_more to a b c verb e fields first last p q r s = rw (r, q, p, s) (simp (append_assoc, append-nil))

pub written : (to a b c d f e hex : List ℕ) (first : Words) → a ≡ to ++ texts (first ∷ []) → b ≡ a ++ codes "write" ++ codes " " ++ e → c ≡ b ++ codes " " → d ≡ c ++ hex → f ≡ d ++ codes "\n" →
    f ≡ to ++ texts (first ∷ (codes "write" ∷ e ∷ hex ∷ []) ∷ [])
written to a b c d f e hex first p q r s t = rw (t, s, r, q, p) (simp (append_assoc, append-nil))

pub was_read : (to a b c e : List ℕ) (first : Words) → a ≡ to ++ texts (first ∷ []) → b ≡ a ++ codes "read" ++ codes " " ++ e → c ≡ b ++ codes " 64\n" →
    c ≡ to ++ texts (first ∷ (codes "read" ∷ e ∷ codes "64" ∷ []) ∷ [])
was_read to a b c e first p q r = rw (r, q, p) (simp (append_assoc, append-nil))

pub unlinked : (to a b c d f e file : List ℕ) (first : Words) → a ≡ to ++ texts (first ∷ []) → b ≡ a ++ codes "unlink" ++ codes " " ++ e → c ≡ b ++ codes " " → d ≡ c ++ file → f ≡ d ++ codes " 0\n" →
    f ≡ to ++ texts (first ∷ (codes "unlink" ∷ e ∷ file ∷ codes "0" ∷ []) ∷ [])
unlinked to a b c d f e file first p q r s t = rw (t, s, r, q, p) (simp (append_assoc, append-nil))

pub hung_up : (to a b c e : List ℕ) (acts : List Words) → a ≡ to ++ texts acts → b ≡ a ++ codes "hangup" ++ codes " " ++ e → c ≡ b ++ codes "\n" →
    c ≡ to ++ texts (acts ++ (codes "hangup" ∷ e ∷ []) ∷ [])
hung_up to a b c e acts p q r =
    rw (flat_map-append line_text acts ((codes "hangup" ∷ e ∷ []) ∷ [])) (rw (r, q, p) (simp (append_assoc, append-nil)))

-- one round more
pub round_more : (rounds k v s s' : ℕ) (text text' : List ℕ) → text ≡ texts (first_lines ++ rounds_up_to rounds k) → s ≡ state_of rounds k → s' ≡ next_state s → v ≡ s' / 2 ^ 33 →
    text' ≡ text ++ texts (round (suc k) v) → text' ≡ texts (first_lines ++ rounds_up_to rounds (suc k))
round_more rounds k v s s' text text' is at next draws more =
    let drawn_is : v ≡ drawn rounds (suc k) = draws ∙ ap (λ (n : ℕ). n / 2 ^ 33) (next ∙ ap next_state at) in
    more ∙ ap (λ t. t ++ texts (round (suc k) v)) is
    ∙ sym (flat_map-append line_text (first_lines ++ rounds_up_to rounds k) (round (suc k) v))
    ∙ ap (λ (n : ℕ). texts ((first_lines ++ rounds_up_to rounds k) ++ round (suc k) n)) drawn_is
    ∙ ap texts (append_assoc first_lines (rounds_up_to rounds k) (round (suc k) (drawn rounds (suc k))))

-- all rounds
pub text_whole : (rounds done : ℕ) → done ≤ rounds → rounds ≤ done → texts (first_lines ++ rounds_up_to rounds done) ≡ workload rounds
unfolding workload
text_whole rounds done a b = ap (λ (k : ℕ). texts (first_lines ++ rounds_up_to rounds k)) (le_antisymm a b)
