use Rattle.std.proofs.Common.{◌++◌, ◌∙◌, ap, append-nil, refl, sym}
use Rattle.link_frames.specs.Frames.{spelling}
use Rattle.link_frames.specs.Gathering.{Gathered}
use Rattle.link_frames.specs.Refusals.{refused_frame}
use Rattle.link_frames.specs.Views.{frame_of}
use Rattle.link_frames.specs.declared.kinds.FrameKind.{FrameKind}
use Rattle.file_session.specs.OneFile.{Standing, admitted}
use Rattle.file_session.proofs.SessionLemmas.{outcome_refused, outcome_admitted, admitted_idle, hears_as, hears_none}
use Rattle.file_session.proofs.one_file.Connection.hear.Goals as goal

pub returns-in-Some-clause-hears : goal.returns-in-Some-clause-hears
returns-in-Some-clause-hears c file bound =
    let now : Standing = record { live = c.args.self.now.live; position = c.args.self.now.connection.position } in
    let is = outcome_refused file now (frame_of c.args.frame) c.in-Some.why c.in-Some.ensures in
    hears_as _ _ now _ _ is
    (record {
      frames =
          ap (λ (gathered : Gathered). gathered.bytes) c.put_refused.ensures.written
          ∙ ap (λ bytes. c.args.room.now.bytes ++ bytes) (sym (append-nil (spelling (refused_frame c.args.frame.endpoint c.in-Some.why))));
      stands = refl;
    })

pub returns-in-Message-clause-hears : goal.returns-in-Message-clause-hears
returns-in-Message-clause-hears c file bound =
    let now : Standing = record { live = c.args.self.now.live; position = c.args.self.now.connection.position } in
    let is = ap (λ (k : FrameKind). admitted file now k c.args.frame.bytes.now) (sym c.in-Message.is)
    ∙ outcome_admitted file now (frame_of c.args.frame) c.in_default.ensures in
    hears_as _ _ _ _ _ is (c.answer.ensures.hears file bound)

pub returns-in-Close-clause-hears : goal.returns-in-Close-clause-hears
returns-in-Close-clause-hears c file bound =
    let now : Standing = record { live = c.args.self.now.live; position = c.args.self.now.connection.position } in
    let is = ap (λ (k : FrameKind). admitted file now k c.args.frame.bytes.now) (sym c.in-Close.is)
    ∙ outcome_admitted file now (frame_of c.args.frame) c.in_default.ensures in
    hears_as _ _ _ _ _ is (hears_none _ _)

pub returns-in-Turn-clause-hears : goal.returns-in-Turn-clause-hears
returns-in-Turn-clause-hears c file bound =
    let now : Standing = record { live = c.args.self.now.live; position = c.args.self.now.connection.position } in
    let is = admitted_idle file now c.args.frame.kind c.args.frame.bytes.now c.in-Turn.is
    ∙ outcome_admitted file now (frame_of c.args.frame) c.in_default.ensures in
    hears_as _ _ _ _ _ is (hears_none _ _)
