-- With all that is needed, and without a fault, the verdict is told unless memory runs out.
use Rattle.std.proofs.Common.{◌≡◌, ◌∙◌, ℕ, List, Some, refl, ap, subst, inl, inr}
use Rattle.host_io.specs.declared.files.FileFault.TheVariants as fault
use Rattle.session_start.specs.Items.{Lists}
use Rattle.link_audit.proofs.OneVerdict.{one_verdict}
use Rattle.link_audit.specs.Verdicts.{IsVerdict}
use Rattle.link_audit.specs.declared.auditing.TheConstants.{MAX_RECORDING}
use Rattle.link_audit.specs.declared.verdicts.Verdict.{Verdict}
use Rattle.run_status.specs.FileCauses.{LacksFile, LacksStart}
use Rattle.run_status.specs.Outside.{FilesTold, SinkTold}
use Rattle.run_status.proofs.FoundFiles.{has_file, has_start, same_lists, same_text}
use Rattle.vfs_journal.specs.Starts.{start_of}
use Rattle.audit_program.specs.Answers.{Answers, HasAll, IsTold, NoFault, TellsVerdict, WritesLine}
use Rattle.audit_program.specs.Statuses.{Collides, fault_in, rule_in, status_of}
use Rattle.audit_program.specs.declared.statuses.AuditStatus.{AuditStatus}
use Rattle.audit_program.specs.declared.statuses.AuditStatus.TheVariants as status

-- the status of a cause of files that is want of memory
only_memory : (answer : AuditStatus) → fault_in answer ≡ Some fault.NoMemory → answer ≡ status.NoMemory
only_memory status.NoMemory e = refl
only_memory status.FileFault e = absurd (cc)
only_memory status.FileTooLarge e = absurd (cc)
only_memory status.Done e = absurd (cc)
only_memory status.Usage e = absurd (cc)
only_memory (status.TreeRefused rule item) e = absurd (cc)
only_memory status.WriteFault e = absurd (cc)
only_memory (status.Collision first second) e = absurd (cc)
only_memory (status.Unlawful place why) e = absurd (cc)

module _ (tree recording : List ℕ) (before after : FilesTold) (wrote writes : SinkTold) (lists : Lists) (bytes : List ℕ) (verdict : Verdict)
    (all : HasAll tree recording before lists bytes verdict) (good : NoFault tree recording before after wrote writes) where
  no_collision : (answer : AuditStatus) → Collides answer → IsTold verdict answer
  no_collision (status.Collision first second) a = absurd (all.distinct first second a.order a.row a.equal)
  no_collision status.Done a = absurd a
  no_collision status.Usage a = absurd a
  no_collision (status.TreeRefused rule item) a = absurd a
  no_collision status.WriteFault a = absurd a
  no_collision status.FileFault a = absurd a
  no_collision status.FileTooLarge a = absurd a
  no_collision status.NoMemory a = absurd a
  no_collision (status.Unlawful place why) a = absurd a

  no_start : (answer : AuditStatus) → LacksStart rule_in fault_in tree before after answer → IsTold verdict answer
  no_start answer lacks = inr (only_memory answer (has_start tree all.text lists before after all.told all.stands good.of_tree rule_in fault_in answer lacks))

  no_recording : (answer : AuditStatus) → LacksFile fault_in MAX_RECORDING recording before after answer → IsTold verdict answer
  no_recording answer lacks = inr (only_memory answer (has_file MAX_RECORDING recording bytes before after all.recorded all.few good.of_recording fault_in answer lacks))

  line_told : (same : Type 0) (told : Verdict) → told ≡ verdict → (answer : AuditStatus) → WritesLine told same wrote writes answer → IsTold verdict answer
  line_told same told e status.NoMemory a = inr refl
  line_told same told e status.WriteFault a = absurd (good.sink a.1)
  line_told same told e status.Done a = inl (a.0 ∙ ap status_of e)
  line_told same told e status.Usage a = inl (a.0 ∙ ap status_of e)
  line_told same told e (status.TreeRefused rule item) a = inl (a.0 ∙ ap status_of e)
  line_told same told e status.FileFault a = inl (a.0 ∙ ap status_of e)
  line_told same told e status.FileTooLarge a = inl (a.0 ∙ ap status_of e)
  line_told same told e (status.Collision first second) a = inl (a.0 ∙ ap status_of e)
  line_told same told e (status.Unlawful place why) a = inl (a.0 ∙ ap status_of e)

  -- what was told of these bytes
  one_told : (told : Verdict) → IsVerdict (start_of lists) bytes told → told ≡ verdict
  one_told told is = one_verdict (start_of lists) bytes told verdict is all.is

  verdict_told : (same : Type 0) (answer : AuditStatus) → TellsVerdict (start_of lists) bytes same wrote writes answer → IsTold verdict answer
  verdict_told same status.NoMemory a = inr refl
  verdict_told same status.WriteFault a = line_told same a.0 (one_told a.0 a.1) status.WriteFault a.3
  verdict_told same status.Done a = line_told same a.0 (one_told a.0 a.1) status.Done a.3
  verdict_told same status.Usage a = line_told same a.0 (one_told a.0 a.1) status.Usage a.3
  verdict_told same (status.TreeRefused rule item) a = line_told same a.0 (one_told a.0 a.1) (status.TreeRefused rule item) a.3
  verdict_told same status.FileFault a = line_told same a.0 (one_told a.0 a.1) status.FileFault a.3
  verdict_told same status.FileTooLarge a = line_told same a.0 (one_told a.0 a.1) status.FileTooLarge a.3
  verdict_told same (status.Collision first second) a = line_told same a.0 (one_told a.0 a.1) (status.Collision first second) a.3
  verdict_told same (status.Unlawful place why) a = line_told same a.0 (one_told a.0 a.1) (status.Unlawful place why) a.3

  pub complete : (same : Type 0) (answer : AuditStatus) → Answers tree recording before after same wrote writes answer → IsTold verdict answer
  complete same answer (inl a) = no_collision answer a.0
  complete same answer (inr (none, distinct, inl a)) = no_start answer a.0
  complete same answer (inr (none, distinct, inr (found, stands, inl a))) = no_recording answer a.0
  complete same answer (inr (none, distinct, inr (found, stands, inr (read, within, told)))) =
      let lists_same : found ≡ lists = same_lists (before.told tree) all.text lists found all.told all.stands stands.stands in
      let bytes_same : read ≡ bytes = same_text (before.told recording) bytes read all.recorded within.0 in
      verdict_told same answer
      (subst (λ (b : List ℕ). TellsVerdict (start_of lists) b same wrote writes answer) bytes_same
      (subst (λ (l : Lists). TellsVerdict (start_of l) read same wrote writes answer) lists_same told))
