use Rattle.std.proofs.Common.{◌≡◌, Err, subst, inr}
use Rattle.host_io.specs.Causes.{Rose}
use Rattle.script_session.specs.declared.faults.TranscriptFault.{TranscriptFault}
use Rattle.script_session.specs.Telling.{FailedOnly, UnlessFailed}
use Rattle.script_session.proofs.ScriptLemmas.{still_says}
use Rattle.script_session.proofs.scripts.run_script.Goals as goal

pub returns-in-Ok-play-clause-answers : goal.returns-in-Ok-play-clause-answers
returns-in-Ok-play-clause-answers g c =
    let says = c.in-Ok-read_script.ensures.says in
    inr (
      tt,
      c.in-Ok.ensures.distinct,
      inr (
        c.in-Ok-read_start.start,
        record { stands = c.in-Ok-read_start.ensures.stands; bytes = c.in-Ok-play.ensures.bytes },
        inr (
          _,
          record {
            says = still_says c.args.script.now _ _ (record { text = says.0; by = c.in-Ok-read_script.script.mode }) c.in-Ok-read_start.ensures.files says.2;
            frames = c.in-Ok-play.ensures.sent says.0 says.1;
          },
          ((c.in-Ok-play.ensures.whole says.0 says.1, c.in-Ok-play.ensures.flushed), c.in-Ok-play.ensures.cause.stays),
        ),
      ),
    )

pub returns-in-Err-Failed-clause-answers : goal.returns-in-Err-Failed-clause-answers
returns-in-Err-Failed-clause-answers g c =
    let says = c.in-Ok-read_script.ensures.says in
    inr (
      tt,
      c.in-Ok.ensures.distinct,
      inr (
        c.in-Ok-read_start.start,
        record { stands = c.in-Ok-read_start.ensures.stands; bytes = c.in-Err-Failed.ensures.bytes },
        inr (
          _,
          record {
            says = still_says c.args.script.now _ _ (record { text = says.0; by = c.in-Ok-read_script.script.mode }) c.in-Ok-read_start.ensures.files says.2;
            frames = c.in-Err-Failed.ensures.sent says.0 says.1;
          },
          (
            c.in-Err-Failed.ensures.part says.0 says.1,
            subst (λ (fault : TranscriptFault). FailedOnly (Err fault) (Rose (g.K.Sink.faults c.args.sink.now) (g.K.Sink.faults c.play.new.sink))) c.in-Err-Failed.field-0-is c.in-Err-Failed.ensures.cause.failed,
          ),
        ),
      ),
    )

pub returns-clause-answers : goal.returns-clause-answers
returns-clause-answers g c =
    let says = c.in-Ok-read_script.ensures.says in
    inr (
      tt,
      c.in-Ok.ensures.distinct,
      inr (
        c.in-Ok-read_start.start,
        record { stands = c.in-Ok-read_start.ensures.stands; bytes = c.in-Err-NoMemory.ensures.bytes },
        inr (
          _,
          record {
            says = still_says c.args.script.now _ _ (record { text = says.0; by = c.in-Ok-read_script.script.mode }) c.in-Ok-read_start.ensures.files says.2;
            frames = c.in-Err-NoMemory.ensures.sent says.0 says.1;
          },
          (
            c.in-Err-NoMemory.ensures.part says.0 says.1,
            subst (λ (fault : TranscriptFault). UnlessFailed (Err fault) (g.K.Sink.faults c.play.new.sink ≡ g.K.Sink.faults c.args.sink.now)) c.in-Err-NoMemory.field-0-is c.in-Err-NoMemory.ensures.cause.stays,
          ),
        ),
      ),
    )
