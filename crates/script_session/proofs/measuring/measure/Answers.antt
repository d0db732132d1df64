use Rattle.std.proofs.Common.{rules, ◌∙◌, subst}
use Rattle.link_frames.specs.declared.kinds.Mode.{Mode}
use Rattle.vfs_journal.specs.Starts.{start_of}
use Rattle.script_session.specs.Measured.{Measures, output_frames}
use Rattle.script_session.proofs.Metering.{if_ok, metered_first}
use Rattle.script_session.proofs.Stages.{fits_bytes, may_go}
use Rattle.script_session.proofs.measuring.measure.Goals as goal

pub returns-clause-measured : goal.returns-clause-measured
returns-clause-measured c = λ text is.
    let start = start_of c.args.start.now in
    let meter = c.in_ok-meter.meter in
    let first = metered_first start meter.world meter.tally c.args.ordinals.distinct c.in_ok-meter.ensures.stands c.in_ok-meter.ensures.tally in
    if_ok c.hear_script.result (Measures (output_frames start meter.mode text)) (Measures (output_frames start c.args.script.now.mode text))
    (λ told are. subst (λ (by : Mode). Measures (output_frames start by text) told) (c.in_ok-meter.ensures.mode ∙ c.mode.ensures) are)
    (c.hear_script.ensures start text is first)

pub returns-in_err-meter-clause-sent : goal.returns-in_err-meter-clause-sent
returns-in_err-meter-clause-sent c = λ text is. may_go text c.args.script.now c.frames-bytes.result.now is c.frames-bytes.ensures (fits_bytes c.frames-bytes.result.now (search rules))

pub returns-clause-sent : goal.returns-clause-sent
returns-clause-sent c = λ text is. may_go text c.args.script.now c.frames-bytes.result.now is c.frames-bytes.ensures (fits_bytes c.frames-bytes.result.now (search rules))
