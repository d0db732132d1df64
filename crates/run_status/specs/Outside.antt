-- What the outside tells at one moment.
use Rattle.std.specs.Prelude.{ℕ, List, Option}
use Rattle.host_io.specs.Told.{Told}

-- files, by name, and the counts of their faults
pub record FilesTold : Type 0 where
  pub told : List ℕ → Told
  pub faults : List ℕ → ℕ
  pub overlong : List ℕ → ℕ

-- the source and the sink
pub record Streams : Type 0 where
  pub left : Option (List ℕ)
  pub last : ℕ
  pub read_faults : ℕ
  pub written : Option (List ℕ)
  pub flushed : ℕ
  pub write_faults : ℕ

-- the sink alone
pub record SinkTold : Type 0 where
  pub written : Option (List ℕ)
  pub flushed : ℕ
  pub faults : ℕ

abbrev pub sink_of : Streams → SinkTold
sink_of streams = record { written = streams.written; flushed = streams.flushed; faults = streams.write_faults }

pub record Outside : Type 0 where
  pub files : FilesTold
  pub streams : Streams

-- what objects tell, by what their kinds tell
abbrev pub files_told : {F : Type 0} → (F → List ℕ → Told) → (F → List ℕ → ℕ) → (F → List ℕ → ℕ) → F → FilesTold
files_told told faults overlong files = record { told = told files; faults = faults files; overlong = overlong files }

abbrev pub sink_told : {K : Type 0} → (K → Option (List ℕ)) → (K → ℕ) → (K → ℕ) → K → SinkTold
sink_told written flushed faults sink = record { written = written sink; flushed = flushed sink; faults = faults sink }

abbrev pub streams_told : {S K : Type 0} → (S → Option (List ℕ)) → (S → ℕ) → (S → ℕ) → (K → Option (List ℕ)) → (K → ℕ) → (K → ℕ) → S → K → Streams
streams_told left last read_faults written flushed write_faults source sink =
    record {
      left = left source;
      last = last source;
      read_faults = read_faults source;
      written = written sink;
      flushed = flushed sink;
      write_faults = write_faults sink;
    }

abbrev pub outside_told : {F S K : Type 0} → (F → List ℕ → Told) → (F → List ℕ → ℕ) → (F → List ℕ → ℕ) → (S → Option (List ℕ)) → (S → ℕ) → (S → ℕ)
    → (K → Option (List ℕ)) → (K → ℕ) → (K → ℕ) → F → S → K → Outside
outside_told told faults overlong left last read_faults written flushed write_faults files source sink =
    record {
      files = files_told told faults overlong files;
      streams = streams_told left last read_faults written flushed write_faults source sink;
    }
