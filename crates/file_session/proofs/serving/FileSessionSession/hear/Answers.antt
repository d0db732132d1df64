use Rattle.std.proofs.Common.{◌∙◌}
use Rattle.link_frames.specs.Views.{frame_of}
use Rattle.file_session.specs.OneFile.{Standing, file_course, IsBehind}
use Rattle.file_session.proofs.SessionLemmas.{file_next, retold}
use Rattle.file_session.proofs.serving.FileSessionSession.hear.Goals as goal

pub returns-clause-heard : goal.returns-clause-heard
returns-clause-heard c = λ course before behind.
    let file = behind.0 in
    let bound = behind.2 in
    let old = c.args.self.now.connection in
    let now : Standing = record { live = old.live; position = old.connection.position } in
    let next : Standing = record { live = c.hear.new.self.live; position = c.hear.new.self.connection.position } in
    let heard = c.hear.ensures.hears file bound in
    retold course (file_course file) behind.1 (IsBehind file next) _ before (frame_of c.args.frame) _ _
    (λ all stands. (file, behind.1, c.hear.ensures.bound file bound, stands))
    (file_next file now next before (frame_of c.args.frame) _ _ behind.3 heard.frames heard.stands)

pub returns-clause-ready : goal.returns-clause-ready
returns-clause-ready c =
    let file = c.requires.ready.0.0 in
    ((file, c.hear.ensures.bound file c.requires.ready.0.1), c.hear.ensures.size ∙ c.requires.ready.1)
