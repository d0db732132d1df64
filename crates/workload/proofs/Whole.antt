-- The whole text.
use Rattle.std.proofs.Common.{◌≡◌, ℕ, zero, suc, ◌+◌, ◌*◌, ◌%◌, ◌≤◌, ◌==◌, Bool, true, false, if◌then◌else◌, List, [], ◌∷◌, ◌++◌, length, decimal, codes, Some, None, refl, ap, ◌∙◌, arith, length-append}
use Rattle.std.proofs.lemmas.List.{length-map}
use Rattle.std.proofs.lemmas.List.Concat.{flat_map-append}
use Rattle.hex.specs.Hex.{encode_lower}
use Rattle.link_frames.specs.declared.kinds.Mode.TheVariants as mode
use Rattle.fidl_names.specs.declared.limits.TheConstants as limit
use Rattle.io_messages.specs.Asked as asked
use Rattle.vfs_script.specs.Words.{number_in, number_of, is_led, newline}
use Rattle.vfs_script.specs.Lines.{request, verb_of}
use Rattle.vfs_script.specs.Scripts.{bad_line, frame_of, frames_of, script_lines, script_mode}
use Rattle.workload.specs.Laws.{WorkloadsAreScripts}
use Rattle.workload.specs.Workload.{Words, acts, asks, directory, drawn, endpoint, file, first_lines, line_text, opens, path, round, rounds_up_to, texts, workload}
use Rattle.workload.proofs.GoodLines.{AllGood, IsGood, good_by, is_auto, is_fine, speaks_all}
use Rattle.workload.proofs.RequestSizes.{open_fits, watch_fits}
use Rattle.workload.proofs.RoundLines.{digits_short, directory_short, endpoint_short, file_short, path_short, rounds_good, rounds_many}

-- ---- the first lines

opened : Words
opened = codes "open" ∷ codes "1" ∷ codes "m/d" ∷ codes "0x40" ∷ codes "1000000" ∷ []

watched : Words
watched = codes "watch" ∷ codes "1000000" ∷ codes "31" ∷ codes "1000001" ∷ []

one_is : number_in 32 (codes "1") ≡ Some 1
unfolding number_in number_of is_led
one_is = refl

flags_are : number_in 64 (codes "0x40") ≡ Some 64
unfolding number_in number_of is_led
flags_are = refl

mask_is : number_in 32 (codes "31") ≡ Some 31
unfolding number_in number_of is_led
mask_is = refl

million_is : number_in 32 (codes "1000000") ≡ Some 1000000
unfolding number_in number_of is_led
million_is = refl

next_is : number_in 32 (codes "1000001") ≡ Some 1000001
unfolding number_in number_of is_led
next_is = refl

open_good : IsGood opened
unfolding opened verb_of
open_good =
    good_by (codes "open") (codes "1" ∷ codes "m/d" ∷ codes "0x40" ∷ codes "1000000" ∷ []) (request 1 (asked.open_path (codes "m/d") 64 None 1000000))
    (refl, (refl, (refl, (refl, (refl, tt))))) refl (rw one_is (rw flags_are (rw million_is refl))) (λ number. open_fits (codes "m/d") 64 1000000 (omega arith) number 1)

watch_good : IsGood watched
unfolding watched verb_of
watch_good =
    good_by (codes "watch") (codes "1000000" ∷ codes "31" ∷ codes "1000001" ∷ []) (request 1000000 (asked.watch 31 0 1000001))
    (refl, (refl, (refl, (refl, tt)))) refl (rw million_is (rw mask_is (rw next_is refl))) (λ number. watch_fits 31 1000001 number 1000000)

-- ---- how long it is

two_texts : (one other : Words) (m n : ℕ) → length (line_text one) ≤ m → length (line_text other) ≤ n → length (texts (one ∷ other ∷ [])) ≤ m + n
two_texts one other m n a b = omega (arith, a, b, length-append (line_text one) (line_text other ++ []), length-append (line_text other) [])

opens_short : (k : ℕ) → k ≤ 10000 → (at flags : List ℕ) → length at ≤ 7 → length flags ≤ 13 → length (line_text (opens k at flags)) ≤ 40
opens_short k few at flags a f =
    let e = endpoint_short k few in
    omega (arith, a, f, e, length-append at (32 ∷ (flags ++ 32 ∷ endpoint k)), length-append flags (32 ∷ endpoint k), length-append (at ++ 32 ∷ (flags ++ 32 ∷ endpoint k)) (newline ∷ []))

one_field : (k : ℕ) → k ≤ 10000 → (verb field : List ℕ) → length verb ≤ 6 → length field ≤ 10 → length (line_text (asks k verb (field ∷ []))) ≤ 25
one_field k few verb field v f =
    let e = endpoint_short k few in
    omega (arith, v, f, e, length-append verb (32 ∷ (endpoint k ++ 32 ∷ field)), length-append (endpoint k) (32 ∷ field), length-append (verb ++ 32 ∷ (endpoint k ++ 32 ∷ field)) (newline ∷ []))

two_fields : (k : ℕ) → k ≤ 10000 → (verb field other : List ℕ) → length verb ≤ 6 → length field ≤ 3 → length other ≤ 1 → length (line_text (asks k verb (field ∷ other ∷ []))) ≤ 25
two_fields k few verb field other v f o =
    let e = endpoint_short k few in
    omega (
      arith,
      v,
      f,
      e,
      o,
      length-append verb (32 ∷ (endpoint k ++ 32 ∷ (field ++ 32 ∷ other))),
      length-append (endpoint k) (32 ∷ (field ++ 32 ∷ other)),
      length-append field (32 ∷ other),
      length-append (verb ++ 32 ∷ (endpoint k ++ 32 ∷ (field ++ 32 ∷ other))) (newline ∷ []),
    )

no_field : (k : ℕ) → k ≤ 10000 → length (line_text (asks k (codes "hangup") [])) ≤ 25
no_field k few =
    let e = endpoint_short k few in
    omega (arith, e, length-append (codes "hangup") (32 ∷ endpoint k), length-append (codes "hangup" ++ 32 ∷ endpoint k) (newline ∷ []))

acts_short : (k v : ℕ) → k ≤ 10000 → length (texts (acts k v)) ≤ 65
unfolding acts
acts_short k v few = by_tests (v % 4 == 0) (v % 4 == 1) (v % 4 == 2) where
  by_tests : (a b c : Bool) → length (texts (
      if a then opens k (path v) (codes "0x10800000006") ∷ asks k (codes "write") (encode_lower (decimal k) ∷ []) ∷ []
      else if b then opens k (path v) (codes "0x2") ∷ asks k (codes "read") (codes "64" ∷ []) ∷ []
      else if c then opens k (directory v) (codes "0x40") ∷ asks k (codes "list") (codes "8192" ∷ []) ∷ []
      else opens k (directory v) (codes "0x100") ∷ asks k (codes "unlink") (file v ∷ codes "0" ∷ []) ∷ [])) ≤ 65
  by_tests true b c =
      two_texts (opens k (path v) (codes "0x10800000006")) (asks k (codes "write") (encode_lower (decimal k) ∷ [])) 40 25
      (opens_short k few (path v) (codes "0x10800000006") (path_short v) (omega arith)) (one_field k few (codes "write") (encode_lower (decimal k)) (omega arith) (digits_short k few))
  by_tests false true c =
      two_texts (opens k (path v) (codes "0x2")) (asks k (codes "read") (codes "64" ∷ [])) 40 25
      (opens_short k few (path v) (codes "0x2") (path_short v) (omega arith)) (one_field k few (codes "read") (codes "64") (omega arith) (omega arith))
  by_tests false false true =
      two_texts (opens k (directory v) (codes "0x40")) (asks k (codes "list") (codes "8192" ∷ [])) 40 25
      (opens_short k few (directory v) (codes "0x40") (let short = directory_short v in omega (arith, short)) (omega arith)) (one_field k few (codes "list") (codes "8192") (omega arith) (omega arith))
  by_tests false false false =
      two_texts (opens k (directory v) (codes "0x100")) (asks k (codes "unlink") (file v ∷ codes "0" ∷ [])) 40 25
      (opens_short k few (directory v) (codes "0x100") (let short = directory_short v in omega (arith, short)) (omega arith)) (two_fields k few (codes "unlink") (file v) (codes "0") (omega arith) (file_short v) (omega arith))

texts_of_both : (a b : List Words) → length (texts (a ++ b)) ≡ length (texts a) + length (texts b)
texts_of_both a b = ap length (flat_map-append line_text a b) ∙ length-append (texts a) (texts b)

round_short : (k v : ℕ) → k ≤ 10000 → length (texts (round k v)) ≤ 100
round_short k v few =
    let front = acts_short k v few in
    let back = no_field k few in
    let last : Words = asks k (codes "hangup") [] in
    omega (arith, front, back, texts_of_both (acts k v) (last ∷ []), length-append (line_text last) [])

rounds_short : (rounds k : ℕ) → k ≤ 10000 → length (texts (rounds_up_to rounds k)) ≤ 100 * k
rounds_short rounds zero few = omega arith
rounds_short rounds (suc k) few =
    let before = rounds_short rounds k (omega (arith, few)) in
    let last = round_short (suc k) (drawn rounds (suc k)) few in
    omega (arith, before, last, texts_of_both (rounds_up_to rounds k) (round (suc k) (drawn rounds (suc k))))

-- ---- all

behind_auto : ℕ → List Words
behind_auto rounds = opened ∷ watched ∷ rounds_up_to rounds rounds

behind_good : (rounds : ℕ) → rounds ≤ 10000 → AllGood (behind_auto rounds)
unfolding behind_auto
behind_good rounds few = (open_good, (watch_good, rounds_good rounds rounds few))

whole_short : (rounds : ℕ) → rounds ≤ 10000 → length (workload rounds) ≤ limit.MAX_TEXT
unfolding workload
whole_short rounds few =
    let short = rounds_short rounds rounds few in
    omega (arith, few, short, texts_of_both first_lines (rounds_up_to rounds rounds))

whole_good : (rounds : ℕ) → rounds ≤ 10000 → bad_line (workload rounds) ≡ None
unfolding workload behind_auto opened watched
whole_good rounds few = is_fine (behind_auto rounds) (behind_good rounds few)

whole_auto : (rounds : ℕ) → rounds ≤ 10000 → script_mode (workload rounds) ≡ Some mode.Auto
unfolding workload behind_auto opened watched
whole_auto rounds few = is_auto (behind_auto rounds) (behind_good rounds few)

whole_many : (rounds : ℕ) → rounds ≤ 10000 → length (frames_of (workload rounds)) ≡ 3 * rounds + 2
unfolding workload behind_auto opened watched
whole_many rounds few =
    let many = speaks_all (behind_auto rounds) (behind_good rounds few) in
    let each = rounds_many rounds rounds in
    length-map (script_lines (workload rounds)) frame_of ∙ many ∙ omega (arith, each)

pub workloads : WorkloadsAreScripts
workloads rounds can =
    let few = can.1 in
    record { short = whole_short rounds few; good = whole_good rounds few; mode = whole_auto rounds few; frames = whole_many rounds few }
