use Rattle.std.proofs.Common.{inr, refl}
use Rattle.file_session.specs.OneFile.{file_course}
use Rattle.file_session.proofs.SessionLemmas.{file_grows, first_stand}
use Rattle.file_session.proofs.serving.serve_file.Goals as goal

pub returns-clause-answers : goal.returns-clause-answers
returns-clause-answers g c =
    let file = c.in-Ok-read_file.file.items in
    let session = c.in-Ok-new-2.session in
    inr (
      tt,
      c.in-Ok.ensures.distinct,
      inr (
        file,
        c.in-Ok-read_file.ensures.file,
        c.run.ensures (file_course file) (file_grows file)
            (file, refl, c.in-Ok-new-2.ensures.bound, first_stand file session.connection.live session.connection.connection.position c.in-Ok-new-2.ensures.live c.in-Ok-new-2.ensures.position),
      ),
    )
