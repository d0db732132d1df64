use Rattle.std.proofs.Common.{◌≡◌, List, ℕ, inr, subst}
use Rattle.link_audit.specs.Verdicts.{IsVerdict}
use Rattle.link_audit.specs.Vouching.{VouchesForLaws}
use Rattle.link_audit.specs.declared.auditing.TheConstants.{MAX_RECORDING}
use Rattle.run_status.specs.Outside.{sink_told}
use Rattle.run_status.proofs.FoundFiles.{still_within}
use Rattle.vfs_journal.specs.Starts.{start_of}
use Rattle.audit_program.proofs.Causes.{tells}
use Rattle.audit_program.proofs.run.audit_files.Goals as goal

pub returns-clause-answers : goal.returns-clause-answers
returns-clause-answers g c =
    let start = start_of c.in-Ok-read_start.start in
    let bytes = c.in-Ok-read_file.bytes.items in
    let told = c.in-Ok-audit.ensures in
    let wrote = sink_told g.K.Sink.written g.K.Sink.flushed g.K.Sink.faults c.args.sink.now in
    let writes = sink_told g.K.Sink.written g.K.Sink.flushed g.K.Sink.faults c.tell_verdict.new.sink in
    inr (
      tt,
      c.in-Ok.ensures.distinct,
      inr (
        c.in-Ok-read_start.start,
        record { stands = c.in-Ok-read_start.ensures.stands; bytes = told.bytes },
        inr (
          bytes,
          still_within MAX_RECORDING c.args.recording.now bytes _ _ c.in-Ok-read_start.ensures.files c.in-Ok-read_file.ensures.file,
          tells start bytes (c.tell_verdict.new.sink ≡ c.args.sink.now) wrote writes c.in-Ok-audit.verdict
              (subst (λ (b : List ℕ). IsVerdict start b c.in-Ok-audit.verdict) c.deref.ensures.value told.verdict)
              (subst (λ (b : List ℕ). VouchesForLaws start b c.in-Ok-audit.verdict) c.deref.ensures.value told.laws)
              c.tell_verdict.result c.tell_verdict.ensures,
        ),
      ),
    )
