-- What stands at a path where one place more is listed.
use Rattle.std.proofs.Common.{◌≡◌, ℕ, Bool, true, false, cond, List, [], ◌∷◌, ◌++◌, Option, Some, None, refl, ap, ◌∙◌}
use Rattle.std.specs.List.{find}
use Rattle.std.specs.Option.{option_or, option_map}
use Rattle.session_start.specs.RulesOnLists.{Place, is_at_place, found_among}
use Rattle.session_start.proofs.Found.{find_push}

kind_of_or : (o : Option Place) (b : Bool) (x : Place) → option_map (λ place. place.directory) (option_or o (cond b (Some x) None)) ≡ option_or (option_map (λ place. place.directory) o) (cond b (Some x.directory) None)
kind_of_or None true x = refl
kind_of_or None false x = refl
kind_of_or (Some y) b x = refl

pub found_push : (listed : List Place) (place : Place) (server : ℕ) (path : List ℕ)
    → found_among (listed ++ place ∷ []) server path ≡ option_or (found_among listed server path) (cond (is_at_place server path place) (Some place.directory) None)
unfolding found_among
found_push listed place server path =
    ap (λ o. option_map (λ place. place.directory) o) (find_push (is_at_place server path) listed place)
    ∙ kind_of_or (find (is_at_place server path) listed) (is_at_place server path place) place

pub or_none : (o : Option Bool) → o ≡ option_or o None
or_none None = refl
or_none (Some kind) = refl
