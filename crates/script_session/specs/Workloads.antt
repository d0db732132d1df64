-- The report of a generated workload.
use Rattle.std.specs.Prelude.{◌≡◌, ℕ, All, List, ◌++◌, length, codes, decimal}
use Rattle.hex.specs.Hex.{encode_lower}
use Rattle.sha2.specs.Sha256.{sha256}
use Rattle.link_frames.specs.Frames.{Frame, IsFrame, spellings}
use Rattle.link_frames.specs.declared.kinds.Mode.TheVariants.{Auto}
use Rattle.link_frames.specs.declared.kinds.Side.TheVariants.{ToServers}
use Rattle.script_session.specs.Measured.{Measures, output_frames}
use Rattle.script_session.specs.declared.measuring.Measured.{Measured}
use Rattle.tree_file.specs.Generated.{generated_lists}
use Rattle.vfs_journal.specs.Starts.{start_of}
use Rattle.vfs_script.specs.Scripts.{frames_of}
use Rattle.workload.specs.Workload.{workload}

-- how many frames go in, how many come out, and the size and the SHA-256 of their bytes, a line
-- each
abbrev pub report_with : ℕ → ℕ → ℕ → List ℕ → List ℕ
report_with frames_in frames_out bytes_out hash =
    codes "frames in " ++ decimal frames_in ++ codes "\nframes out " ++ decimal frames_out
    ++ codes "\nbytes out " ++ decimal bytes_out ++ codes "\nsha256 " ++ encode_lower hash ++ codes "\n"

-- of so many frames that go in, and what is measured of those that come out
abbrev pub Reports : List Frame → ℕ → List ℕ → Type 0
Reports written sent report = (out : Measured) × Measures written out × (report ≡ report_with sent out.frames out.bytes out.hash)

-- of frames that go in and those that come out
abbrev pub report_for : List Frame → List Frame → List ℕ
report_for sent written =
    let bytes = spellings written in report_with (length sent) (length written) (length bytes) (sha256 bytes)

-- of the workload of so many rounds, over the generated start
unfoldable pub report_of : ℕ → List ℕ
report_of rounds = report_for (frames_of (workload rounds)) (output_frames (start_of generated_lists) Auto (workload rounds))

-- this is the report, and what it tells of are frames that may go to the servers
pub record IsReport (rounds : ℕ) (report : List ℕ) : Type 0 where
  pub sent : All (IsFrame ToServers) (frames_of (workload rounds))
  pub is : report ≡ report_of rounds
