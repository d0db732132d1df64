-- The report of a workload, from what is counted.
use Rattle.std.proofs.Common.{◌≡◌, ℕ, List, Option, Result, Ok, Err, IfOk, length, refl, sym, ap, ◌∙◌, subst}
use Rattle.std.specs.Prelude.{All}
use Rattle.std.proofs.lemmas.List.{length-map}
use Rattle.link_frames.specs.declared.kinds.Mode.{Mode}
use Rattle.link_frames.specs.declared.kinds.Mode.TheVariants.{Auto}
use Rattle.link_frames.specs.Frames.{Frame, IsFrame, spellings}
use Rattle.link_frames.specs.declared.kinds.Side.TheVariants.{ToServers}
use Rattle.vfs_script.specs.Scripts.{call_in, calls_of, frame_of, frames_of, script_lines}
use Rattle.vfs_script.specs.declared.calls.Call.{Call}
use Rattle.script_session.specs.Measured.{Measures, output_frames}
use Rattle.script_session.specs.declared.measuring.Measured.{Measured}
use Rattle.session_start.specs.Items.{Lists}
use Rattle.tree_file.specs.Generated.{generated_lists}
use Rattle.vfs_journal.specs.Starts.{start_of}
use Rattle.workload.specs.Laws.{IsGoodScript}
use Rattle.workload.specs.Workload.{IsRounds, workload}
use Rattle.workload.proofs.Whole.{workloads}
use Rattle.script_session.specs.Workloads.{IsReport, Reports, report_of, report_with}

-- so many rounds are a script
pub is_good : (rounds : ℕ) → IsRounds rounds → IsGoodScript rounds
is_good = workloads

-- a script has as many frames as places for calls
frames_beside_calls : (text : List ℕ) → length (calls_of text) ≡ length (frames_of text)
frames_beside_calls text = length-map (script_lines text) call_in ∙ sym (length-map (script_lines text) frame_of)

pub is_report : (rounds sent : ℕ) (start : Lists) (by : Mode) (calls : List (Option Call)) (out : Measured) (report : List ℕ)
    → start ≡ generated_lists → by ≡ Auto → calls ≡ calls_of (workload rounds) → sent ≡ length calls
    → Measures (output_frames (start_of start) by (workload rounds)) out → report ≡ report_with sent out.frames out.bytes out.hash
    → report ≡ report_of rounds
unfolding report_of
is_report rounds sent start by calls out report from auto beside count measures is =
    let text : List ℕ = workload rounds in
    let written : List Frame = output_frames (start_of generated_lists) Auto text in
    let all : Measures written out =
    subst (λ (lists : Lists). Measures (output_frames (start_of lists) Auto text) out) from
    (subst (λ (mode : Mode). Measures (output_frames (start_of start) mode text) out) auto measures)
    in
    let frames : ℕ = length (frames_of text) in
    is ∙ ap (λ n. report_with n out.frames out.bytes out.hash) (count ∙ ap length beside ∙ frames_beside_calls text)
    ∙ ap (λ n. report_with frames n out.bytes out.hash) all.frames
    ∙ ap (λ n. report_with frames (length written) n out.hash) all.bytes
    ∙ ap (report_with frames (length written) (length (spellings written))) all.hash

pub is_reported : {V E : Type 0} (r : Result V E) (bytes : V → List ℕ) (rounds : ℕ) (start : Lists) (by : Mode) (calls : List (Option Call))
    → start ≡ generated_lists → by ≡ Auto → calls ≡ calls_of (workload rounds) → All (IsFrame ToServers) (frames_of (workload rounds))
    → IfOk r (λ report. Reports (output_frames (start_of start) by (workload rounds)) (length calls) (bytes report))
    → IfOk r (λ report. IsReport rounds (bytes report))
is_reported (Ok report) bytes rounds start by calls from auto beside sent told =
    record { sent = sent; is = is_report rounds (length calls) start by calls told.0 (bytes report) from auto beside refl told.1 told.2 }
is_reported (Err e) bytes rounds start by calls from auto beside sent told = tt
