-- Where no line is refused, and no fault is met, all is done unless memory runs out.
use Rattle.std.proofs.Common.{ℕ, List, subst, inl, inr}
use Rattle.fidl_names.specs.declared.limits.TheConstants as limit
use Rattle.run_status.proofs.FoundFiles.{not_large, same_text}
use Rattle.run_status.specs.Outside.{FilesTold, SinkTold}
use Rattle.io_namespace.specs.Entries.{Table}
use Rattle.ns_program.specs.Answers.{Answers, HasNoScript, HasNoTable, IsDoneOrNoMemory, IsServable, NoFault, Writes}
use Rattle.ns_program.specs.Rewriting.{IsLostAt}
use Rattle.ns_program.specs.Tables.{IsRefusedAt, IsTable, Says, lines_of}
use Rattle.ns_program.specs.Words.{Asks}
use Rattle.ns_program.specs.declared.statuses.NsStatus.{NsStatus}
use Rattle.ns_program.specs.declared.statuses.NsStatus.TheVariants as status

no_table : (asks : Asks) (before after : FilesTold) (sb sa : SinkTold) → IsServable asks before → NoFault asks before after sb sa → (s : NsStatus) → HasNoTable asks.table before after s → IsDoneOrNoMemory s
no_table asks before after sb sa is fine (status.TableRefused line) h =
    is.none_refused line (subst (λ (t : List ℕ). IsRefusedAt (lines_of t) line) (same_text (before.told asks.table) is.table h.text is.table_told h.within.0) h.refused)
no_table asks before after sb sa is fine status.FileFault h = fine.table h
no_table asks before after sb sa is fine status.FileTooLarge h = not_large limit.MAX_TEXT (before.told asks.table) is.table is.table_told is.table_few h.1
no_table asks before after sb sa is fine status.NoMemory h = tt
no_table asks before after sb sa is fine status.Done h = tt
no_table asks before after sb sa is fine status.Usage h = h
no_table asks before after sb sa is fine status.WriteFault h = h
no_table asks before after sb sa is fine (status.LineRefused line) h = h

no_script : (asks : Asks) (before after : FilesTold) (sb sa : SinkTold) → IsServable asks before → NoFault asks before after sb sa → (table : Table) → IsTable (before.told asks.table) table →
    (s : NsStatus) → HasNoScript table asks.script before after s → IsDoneOrNoMemory s
no_script asks before after sb sa is fine table said (status.LineRefused line) h =
    is.none_lost table line
    (subst (λ (t : List ℕ). Says (lines_of t) table) (same_text (before.told asks.table) is.table said.text is.table_told said.within.0) said.says)
    (subst (λ (t : List ℕ). IsLostAt table (lines_of t) line) (same_text (before.told asks.script) is.script h.text is.script_told h.within.0) h.lost)
no_script asks before after sb sa is fine table said status.FileFault h = fine.script h
no_script asks before after sb sa is fine table said status.FileTooLarge h = not_large limit.MAX_TEXT (before.told asks.script) is.script is.script_told is.script_few h.1
no_script asks before after sb sa is fine table said status.NoMemory h = tt
no_script asks before after sb sa is fine table said status.Done h = tt
no_script asks before after sb sa is fine table said status.Usage h = h
no_script asks before after sb sa is fine table said status.WriteFault h = h
no_script asks before after sb sa is fine table said (status.TableRefused line) h = h

written : (asks : Asks) (before after : FilesTold) (sb sa : SinkTold) → NoFault asks before after sb sa → (out : List ℕ) (s : NsStatus) → Writes out sb sa s → IsDoneOrNoMemory s
written asks before after sb sa fine out status.Done h = tt
written asks before after sb sa fine out status.WriteFault h = fine.sink h.1
written asks before after sb sa fine out status.NoMemory h = tt
written asks before after sb sa fine out status.FileFault h = h
written asks before after sb sa fine out status.FileTooLarge h = h
written asks before after sb sa fine out status.Usage h = h
written asks before after sb sa fine out (status.LineRefused line) h = h
written asks before after sb sa fine out (status.TableRefused line) h = h

pub complete : (asks : Asks) (before after : FilesTold) (sb sa : SinkTold) (same : Type 0) → IsServable asks before → NoFault asks before after sb sa → (s : NsStatus) → Answers asks before after sb sa same s → IsDoneOrNoMemory s
complete asks before after sb sa same is fine s (inl h) = no_table asks before after sb sa is fine s h.0
complete asks before after sb sa same is fine s (inr h) = elim h.2 [
  | inl g ↦ no_script asks before after sb sa is fine h.0 h.1 s g.0
  | inr g ↦ written asks before after sb sa fine g.0 s g.2
]
