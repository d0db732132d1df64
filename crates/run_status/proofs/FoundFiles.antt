-- Of a file that is told, is within its limit and met no fault, a program lacks nothing but memory, by whatever
-- statuses it tells the causes.
use Rattle.std.proofs.Common.{◌≡◌, ◌≤◌, ◌∙◌, ℕ, List, Option, Some, None, length}
use Rattle.std.proofs.Common.{is_some, true≢false, refl, sym, ap, subst, arith}
use Rattle.std.specs.Prelude.{IsSomeAnd, MatchOption}
use Rattle.fidl_names.specs.declared.limits.TheConstants as limit
use Rattle.host_io.specs.Causes.{Rose}
use Rattle.host_io.specs.Told.{Holds, IsAllOf, IsLongerThan, Told}
use Rattle.host_io.specs.declared.files.FileFault.{FileFault}
use Rattle.host_io.specs.declared.files.FileFault.TheVariants as fault
use Rattle.session_start.specs.Items.{Lists}
use Rattle.tree_file.specs.Rules.{first_failure, start_from}
use Rattle.run_status.specs.FileCauses.{IsFileCause, LacksFile, LacksStart}
use Rattle.run_status.specs.Files.{IsFileFault, IsWithin, StillTold}
use Rattle.run_status.specs.Outside.{FilesTold}
use Rattle.run_status.specs.Trees.{IsBroken, Stands}

-- ---- what is read of a file that is told

-- its bytes
pub same_text : (told : Told) (text other : List ℕ) → told ≡ Holds text → IsAllOf told other → other ≡ text
same_text told text other e all = subst (λ (t : Told). IsAllOf t other) e all

-- of a tree file its lists
pub same_lists : (told : Told) (text : List ℕ) (lists other : Lists) → told ≡ Holds text
    → Stands (Holds text) lists → Stands told other → other ≡ lists
same_lists told text lists other e here there =
    let texts : there.text ≡ here.text = same_text told text there.text e there.within.0 ∙ sym here.within.0 in
    let found : Some other ≡ Some lists = sym there.is ∙ (ap start_from texts ∙ here.is) in
    cc

-- ---- causes that it refutes

-- within the limit it isn't too large
pub not_large : (most : ℕ) (told : Told) (text : List ℕ) → told ≡ Holds text → length text ≤ most
    → IsLongerThan most told → ⊥
not_large most told text e few long =
    let longer = subst (IsLongerThan most) e long in
    omega (arith, longer, few)

-- a text that breaks a rule isn't one that breaks none
no_first : (text : List ℕ) (first : ℕ × ℕ) → first_failure text ≡ Some first → first_failure text ≡ None → ⊥
no_first text first some none = true≢false (ap is_some (sym some ∙ none))

-- a tree that stands breaks no rule
pub not_broken : (told : Told) (lists : Lists) (text : List ℕ) (rule item : ℕ) → told ≡ Holds text
    → Stands (Holds text) lists → IsBroken told rule item → ⊥
not_broken told lists text rule item e stands broken =
    let texts : broken.text ≡ stands.text =
    same_text told text broken.text e broken.within.0 ∙ sym stands.within.0 in
    no_first broken.text (rule, item) broken.first (ap first_failure texts ∙ stands.unbroken)

module _ (most : ℕ) (name text : List ℕ) (before after : FilesTold) (told : before.told name ≡ Holds text)
    (few : length text ≤ most) (good : IsFileFault name before after → ⊥) where
  left_to_memory : (why : Option FileFault) → IsSomeAnd why (IsFileCause most name before after)
      → why ≡ Some fault.NoMemory
  left_to_memory None h = absurd h
  left_to_memory (Some fault.Failed) h = absurd (good h)
  left_to_memory (Some fault.TooLarge) h = absurd (not_large most (before.told name) text told few h.1)
  left_to_memory (Some fault.NoMemory) h = refl

  -- a program that has no file, though it is there, says that memory is wanting
  pub has_file : {S : Type 0} (fault_in : S → Option FileFault) (status : S)
      → LacksFile fault_in most name before after status → fault_in status ≡ Some fault.NoMemory
  has_file fault_in status lacks = left_to_memory (fault_in status) lacks

module _ (tree text : List ℕ) (lists : Lists) (before after : FilesTold) (told : before.told tree ≡ Holds text)
    (stands : Stands (Holds text) lists) (good : IsFileFault tree before after → ⊥) where
  few_bytes : length text ≤ limit.MAX_TEXT
  few_bytes = subst (λ (t : List ℕ). length t ≤ limit.MAX_TEXT) stands.within.0 stands.within.1

  left_to_file : {S : Type 0} (fault_in : S → Option FileFault) (status : S) (why : Option (ℕ × ℕ))
      → MatchOption why (LacksFile fault_in limit.MAX_TEXT tree before after status)
      (λ broken. IsBroken (before.told tree) broken.0 broken.1)
      → LacksFile fault_in limit.MAX_TEXT tree before after status
  left_to_file fault_in status None h = h
  left_to_file fault_in status (Some broken) h =
      absurd (not_broken (before.told tree) lists text broken.0 broken.1 told stands h)

  -- and so does one that has no start, though the tree file stands
  pub has_start : {S : Type 0} (rule_in : S → Option (ℕ × ℕ)) (fault_in : S → Option FileFault) (status : S)
      → LacksStart rule_in fault_in tree before after status → fault_in status ≡ Some fault.NoMemory
  has_start rule_in fault_in status lacks =
      has_file limit.MAX_TEXT tree text before after told few_bytes good fault_in status
      (left_to_file fault_in status (rule_in status) lacks)

-- ---- a file that is read behind others

-- a count that rose from then on rose from before on
pub rose_before : (before mid after : ℕ) → before ≤ mid → Rose mid after → Rose before after
rose_before before mid after later rose = omega (arith, later, rose)

module _ (most : ℕ) (name : List ℕ) (before mid after : FilesTold) (still : StillTold before mid) where
  still_cause : (why : Option FileFault) → IsSomeAnd why (IsFileCause most name mid after)
      → IsSomeAnd why (IsFileCause most name before after)
  still_cause None h = h
  still_cause (Some fault.Failed) h =
      rose_before (before.faults name) (mid.faults name) (after.faults name) (still.faults name) h
  still_cause (Some fault.TooLarge) h = (
    rose_before (before.overlong name) (mid.overlong name) (after.overlong name) (still.overlong name) h.0,
    subst (IsLongerThan most) (still.told name) h.1,
  )
  still_cause (Some fault.NoMemory) h = h

  -- why there is none is the same from before on
  pub still_lacks : {S : Type 0} (fault_in : S → Option FileFault) (status : S)
      → LacksFile fault_in most name mid after status → LacksFile fault_in most name before after status
  still_lacks fault_in status lacks = still_cause (fault_in status) lacks

-- and so is what it has
pub still_within : (most : ℕ) (name bytes : List ℕ) (before mid : FilesTold) → StillTold before mid
    → IsWithin most (mid.told name) bytes → IsWithin most (before.told name) bytes
still_within most name bytes before mid still within =
    subst (λ (t : Told). IsWithin most t bytes) (still.told name) within
