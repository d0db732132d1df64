-- The first fault of a text, by its tests.
use Rattle.std.proofs.Common.{◌≡◌, ℕ, Bool, not, List, [], ◌∷◌, length, Option, ap, ◌∙◌, nat_lt}
use Rattle.std.specs.List.{list_any}
use Rattle.std.specs.Str.{is_utf8}
use Rattle.fidl_names.specs.First.{cause_if, first_of}
use Rattle.fidl_names.specs.declared.limits.TheConstants as limit
use Rattle.io_namespace.specs.Cleaning.{parts}
use Rattle.io_namespace.specs.Faults.{is_absolute, is_bad_part, text_causes}
use Rattle.io_namespace.specs.declared.faults.NameFault.{NameFault}
use Rattle.io_namespace.specs.declared.faults.NameFault.TheVariants as fault

abbrev by_tests : Bool → Bool → Bool → Bool → Option NameFault
by_tests absolute long utf8 bad =
    first_of (cause_if (not absolute) fault.Relative ∷ cause_if long fault.TooLong ∷ cause_if (not utf8) fault.NotUtf8 ∷ cause_if bad fault.BadName ∷ [])

pub found_by : (text : List ℕ) (absolute long utf8 bad : Bool) → is_absolute text ≡ absolute → nat_lt limit.MAX_PATH (length text) ≡ long → is_utf8 text ≡ utf8 →
    list_any is_bad_part (parts text) ≡ bad → first_of (text_causes text) ≡ by_tests absolute long utf8 bad
found_by text absolute long utf8 bad a l u b =
    ap (λ x. by_tests x (nat_lt limit.MAX_PATH (length text)) (is_utf8 text) (list_any is_bad_part (parts text))) a
    ∙ ap (λ x. by_tests absolute x (is_utf8 text) (list_any is_bad_part (parts text))) l
    ∙ ap (λ x. by_tests absolute long x (list_any is_bad_part (parts text))) u
    ∙ ap (by_tests absolute long utf8) b
