use Rattle.std.proofs.Common.{◌<◌, ◌≤◌, ◌+◌, List, length, refl, sym, ap, ◌∙◌, subst, arith}
use Rattle.link_frames.specs.Frames.{Frame}
use Rattle.link_frames.specs.Views.{frame_of}
use Rattle.link_frames.specs.declared.kinds.Mode.{Mode}
use Rattle.link_frames.specs.declared.kinds.Side.TheVariants as side
use Rattle.vfs_journal.specs.Session.{steps}
use Rattle.vfs_script.specs.Scripts.{frames_of}
use Rattle.script_session.specs.Tallies.{Metered}
use Rattle.script_session.proofs.Counting.{Read, all_hold, one_in_front, read_more}
use Rattle.script_session.proofs.Metering.{Heard, frames_many, none_heard, one_heard, script_begins}
use Rattle.script_session.proofs.Stages.{fits_bytes, rest_is}
use Rattle.script_session.proofs.meter.Meter.hear_all.Goals as goal

pub loop-init : goal.loop-init
loop-init c =
    let now = c.args.self.now in
    let few = c.requires.few in
    let small = c.requires.small in (
      λ text is.
          script_begins text c.args.script.now c.args.bytes.now (Heard now.mode now.world now.tally now.world now.tally) is c.requires.bytes
          (fits_bytes c.args.bytes.now c.type_inv.bytes) (none_heard now.mode now.world now.tally),
      c.requires.frames,
      refl,
      omega (arith, few),
      omega (arith, small),
    )

pub unreachable-requires : goal.unreachable-requires
unreachable-requires c =
    let text = c.requires.script.0 in
    let is = c.requires.script.1 in
    let many = frames_many text c.args.script.now is in
    let more : c.loop.counter < length (frames_of text) = omega (arith, many, c.loop-test.true, c.len-end.ensures) in
    one_in_front side.ToServers (frames_of text) c.loop.counter c.loop.rest.now _ (c.loop.invariant.0 text is) more c.frame_at.result c.frame_at.ensures c.in_default.not-Whole

pub loop-preserved : goal.loop-preserved
loop-preserved c =
    let old = c.args.self.now in
    let mid = c.loop.self in
    let new = c.hear_one.new.self in
    let rest = c.loop.rest.now in
    let n = c.in-Whole.size in
    let f = frame_of c.in-Whole.frame in
    let mode = c.loop.invariant.2 in
    let few = c.loop.invariant.3 in
    let small = c.loop.invariant.4 in
    let more_few = c.in_ok-hear_one.ensures.few in
    let more_small = c.in_ok-hear_one.ensures.small in
    let Before : List Frame → Type 0 = Heard old.mode old.world old.tally mid.world mid.tally in
    let After : List Frame → Type 0 = Heard old.mode old.world old.tally new.world new.tally in (
      λ text is.
          subst (λ b. Read side.ToServers (frames_of text) (c.loop.counter + 1) b After) (sym (rest_is n rest))
          (read_more side.ToServers (frames_of text) c.loop.counter rest Before (c.loop.invariant.0 text is) f n After c.in-Whole.ensures
          (one_heard old.mode old.world old.tally mid.world mid.tally new.world new.tally f
          (λ start journal metered. subst (λ (by : Mode). Metered start (steps start by journal f) new.world new.tally) mode (c.in_ok-hear_one.ensures.metered start journal metered)))),
      c.in_ok-hear_one.ensures.frames ∙ ap (λ k. k + 1) c.loop.invariant.1,
      c.hear_one.ensures.mode ∙ mode,
      omega (arith, few, more_few),
      omega (arith, small, more_small),
    )

pub returns-clause-metered : goal.returns-clause-metered
returns-clause-metered c = λ start text is metered.
    let many = frames_many text c.args.script.now is in
    let past : length (frames_of text) ≤ c.loop.counter = omega (arith, many, c.loop-test.false, c.len-end.ensures) in
    all_hold side.ToServers (frames_of text) c.loop.counter c.loop.rest.now _ (c.loop.invariant.0 text is) past start metered
