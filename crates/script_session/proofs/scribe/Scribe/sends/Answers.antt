use Rattle.std.proofs.Common.{◌≡◌, sym, ap, subst}
use Rattle.std.specs.Prelude.{slice_get}
use Rattle.io_client.specs.Calls.{Calls}
use Rattle.vfs_script.specs.Noting.{IsFree}
use Rattle.script_session.specs.Telling.{IsWithin, Knows, Scribe}
use Rattle.script_session.proofs.Sending.{answer_known, answer_within}
use Rattle.script_session.proofs.scribe.Scribe.sends.Goals as goal

pub returns-clause-knows : goal.returns-clause-knows
returns-clause-knows c = λ past call is knows.
    let calls : c.self.inside.client ≡ c.args.self.now.calls = ap (λ (s : Scribe). s.calls) c.self.view_is in
    let at = slice_get c.args.script.now.calls c.args.i in
    answer_known c.self.inside.client c.note.new.client at call is (subst (λ (k : Calls). IsFree k at) (sym calls) c.requires.free) past c.note.result c.note.ensures.noted
    (subst (Knows past) (sym calls) knows)

pub returns-clause-within : goal.returns-clause-within
returns-clause-within c = λ low most call is up within.
    let calls : c.self.inside.client ≡ c.args.self.now.calls = ap (λ (s : Scribe). s.calls) c.self.view_is in
    let at = slice_get c.args.script.now.calls c.args.i in
    answer_within c.self.inside.client c.note.new.client at call is (subst (λ (k : Calls). IsFree k at) (sym calls) c.requires.free) low most c.note.result c.note.ensures.noted up
    (subst (IsWithin low most) (sym calls) within)
