-- Words that ask for something ask for nothing else.
use Rattle.std.proofs.Common.{◌≡◌, ℕ, List, [], ◌∷◌, refl, sym, ap, ◌∙◌, codes, decimal, arith}
use Rattle.std.proofs.lemmas.Fmt.{decimal_injective}
use Rattle.link_frames.specs.declared.kinds.Mode.{Mode}
use Rattle.link_frames.specs.declared.kinds.Mode.TheVariants as mode
use Rattle.workload.specs.Workload.{IsRounds}
use Rattle.vfs_program.specs.Words.{Asks, FileOf, ServeOf, RunOf, CheckOf, ShowAll, MakeOf, Means, HasRounds, mode_word}

same_mode : (a b : Mode) → mode_word a ≡ mode_word b → a ≡ b
same_mode mode.Auto mode.Auto e = refl
same_mode mode.Auto mode.Given e = absurd (grind (arith, e))
same_mode mode.Given mode.Auto e = absurd (grind (arith, e))
same_mode mode.Given mode.Given e = refl

files_alone : (words : List (List ℕ)) (name : List ℕ) (asks : Asks) → Means words (FileOf name) → Means words asks → asks ≡ FileOf name
files_alone words name (FileOf other) m n =
    let both : codes "file" ∷ other ∷ [] ≡ codes "file" ∷ name ∷ [] = sym n ∙ m in
    let name' : other ≡ name = cc in
    cc
files_alone words name (ServeOf tree by) m n = absurd (grind (arith, m, n))
files_alone words name (RunOf tree script) m n = absurd (grind (arith, m, n))
files_alone words name (CheckOf tree) m n = absurd (grind (arith, m, n))
files_alone words name ShowAll m n = absurd (grind (arith, m, n))
files_alone words name (MakeOf rounds) m n = absurd (grind (arith, m, n.0))

serves_alone : (words : List (List ℕ)) (tree : List ℕ) (by : Mode) (asks : Asks) → Means words (ServeOf tree by) → Means words asks → asks ≡ ServeOf tree by
serves_alone words tree by (FileOf name) m n = absurd (grind (arith, m, n))
serves_alone words tree by (ServeOf other mode') m n =
    let both : codes "serve" ∷ other ∷ mode_word mode' ∷ [] ≡ codes "serve" ∷ tree ∷ mode_word by ∷ [] = sym n ∙ m in
    let tree' : other ≡ tree = cc in
    let word : mode_word mode' ≡ mode_word by = cc in
    let same : mode' ≡ by = same_mode mode' by word in
    cc
serves_alone words tree by (RunOf other script) m n = absurd (grind (arith, m, n))
serves_alone words tree by (CheckOf name) m n = absurd (grind (arith, m, n))
serves_alone words tree by ShowAll m n = absurd (grind (arith, m, n))
serves_alone words tree by (MakeOf rounds) m n = absurd (grind (arith, m, n.0))

runs_alone : (words : List (List ℕ)) (tree script : List ℕ) (asks : Asks) → Means words (RunOf tree script) → Means words asks → asks ≡ RunOf tree script
runs_alone words tree script (FileOf name) m n = absurd (grind (arith, m, n))
runs_alone words tree script (ServeOf other by) m n = absurd (grind (arith, m, n))
runs_alone words tree script (RunOf other second) m n =
    let both : codes "run" ∷ other ∷ second ∷ [] ≡ codes "run" ∷ tree ∷ script ∷ [] = sym n ∙ m in
    let tree' : other ≡ tree = cc in
    let script' : second ≡ script = cc in
    cc
runs_alone words tree script (CheckOf name) m n = absurd (grind (arith, m, n))
runs_alone words tree script ShowAll m n = absurd (grind (arith, m, n))
runs_alone words tree script (MakeOf rounds) m n = absurd (grind (arith, m, n.0))

same_rounds : (a b : ℕ) → IsRounds a → IsRounds b → decimal a ≡ decimal b → a ≡ b
same_rounds a b p q e = decimal_injective a b (omega (arith, p.1)) (omega (arith, q.1)) e

makes_alone : (words : List (List ℕ)) (rounds : ℕ) (asks : Asks) → Means words (MakeOf rounds) → Means words asks → asks ≡ MakeOf rounds
makes_alone words rounds (FileOf name) m n = absurd (grind (arith, m.0, n))
makes_alone words rounds (ServeOf tree by) m n = absurd (grind (arith, m.0, n))
makes_alone words rounds (RunOf tree script) m n = absurd (grind (arith, m.0, n))
makes_alone words rounds (CheckOf tree) m n = absurd (grind (arith, m.0, n))
makes_alone words rounds ShowAll m n = absurd (grind (arith, m.0, n))
makes_alone words rounds (MakeOf other) m n =
    let both : codes "make" ∷ decimal other ∷ [] ≡ codes "make" ∷ decimal rounds ∷ [] = sym n.0 ∙ m.0 in
    let word : decimal other ≡ decimal rounds = cc in
    ap MakeOf (same_rounds other rounds n.1 m.1 word)

checks_alone : (words : List (List ℕ)) (tree : List ℕ) (asks : Asks) → Means words (CheckOf tree) → Means words asks → asks ≡ CheckOf tree
checks_alone words tree (FileOf name) m n = absurd (grind (arith, m, n))
checks_alone words tree (ServeOf other by) m n = absurd (grind (arith, m, n))
checks_alone words tree (RunOf other script) m n = absurd (grind (arith, m, n))
checks_alone words tree (CheckOf other) m n =
    let both : codes "check" ∷ other ∷ [] ≡ codes "check" ∷ tree ∷ [] = sym n ∙ m in
    let tree' : other ≡ tree = cc in
    cc
checks_alone words tree ShowAll m n = absurd (grind (arith, m, n))
checks_alone words tree (MakeOf rounds) m n = absurd (grind (arith, m, n.0))

shows_alone : (words : List (List ℕ)) (asks : Asks) → Means words ShowAll → Means words asks → asks ≡ ShowAll
shows_alone words (FileOf name) m n = absurd (grind (arith, m, n))
shows_alone words (ServeOf tree by) m n = absurd (grind (arith, m, n))
shows_alone words (RunOf tree script) m n = absurd (grind (arith, m, n))
shows_alone words (CheckOf tree) m n = absurd (grind (arith, m, n))
shows_alone words ShowAll m n = refl
shows_alone words (MakeOf rounds) m n = absurd (grind (arith, m, n.0))

pub one_meaning : (words : List (List ℕ)) (one asks : Asks) → Means words one → Means words asks → asks ≡ one
one_meaning words (FileOf name) asks m n = files_alone words name asks m n
one_meaning words (ServeOf tree by) asks m n = serves_alone words tree by asks m n
one_meaning words (RunOf tree script) asks m n = runs_alone words tree script asks m n
one_meaning words (CheckOf tree) asks m n = checks_alone words tree asks m n
one_meaning words ShowAll asks m n = shows_alone words asks m n
one_meaning words (MakeOf rounds) asks m n = makes_alone words rounds asks m n

-- words that ask for a workload say its rounds
pub has_rounds : (words : List (List ℕ)) (asks : Asks) → Means words asks → HasRounds asks
has_rounds words (FileOf name) m = tt
has_rounds words (ServeOf tree by) m = tt
has_rounds words (RunOf tree script) m = tt
has_rounds words (CheckOf tree) m = tt
has_rounds words ShowAll m = tt
has_rounds words (MakeOf rounds) m = m.1
