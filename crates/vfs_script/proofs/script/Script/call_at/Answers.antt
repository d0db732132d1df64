use Rattle.std.proofs.Common.{◌≡◌, ◌<◌, length, refl, sym, ap, ◌∙◌, subst, Some}
use Rattle.std.specs.List.{slice_get}
use Rattle.std.proofs.lemmas.Option.{slice_get_read}
use Rattle.vfs_script.specs.Kept.{ScriptValue}
use Rattle.vfs_script.proofs.ScriptLemmas.{given_call}
use Rattle.vfs_script.proofs.script.Script.call_at.Goals as goal

-- the call that stands there
pub stands : (c : goal.After-result-1) → slice_get c.self.inside.calls.items c.args.i ≡ Some c.index.result.now
stands c =
    let same = ap (λ (s : ScriptValue). s.calls) c.self.view_is in
    slice_get_read c.self.inside.calls.items (length c.self.inside.calls.items) c.args.i c.index.result.now refl
    (subst (λ calls. c.args.i < length calls) (sym same) c.requires) c.index.ensures

pub returns-clause-found : goal.returns-clause-found
returns-clause-found c = ap (λ (s : ScriptValue). slice_get s.calls c.args.i) (sym c.self.view_is) ∙ stands c

pub returns-clause-txid : goal.returns-clause-txid
returns-clause-txid c = (given_call c.self.inside.calls.items c.args.i c.index.result.now c.self.invariant.0 (stands c)).0

pub returns-clause-two_way : goal.returns-clause-two_way
returns-clause-two_way c = (given_call c.self.inside.calls.items c.args.i c.index.result.now c.self.invariant.0 (stands c)).1
