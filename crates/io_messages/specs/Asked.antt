-- What a request says, without where its texts and bytes lie in memory.
use Rattle.std.specs.Prelude.{ℕ, ℤ, List, Option}
use Rattle.fidl_names.specs.declared.methods.Method.{Method}
use Rattle.fidl_names.specs.declared.methods.Method.TheVariants as method
use Rattle.io_messages.specs.declared.requests.Request.{Request}
use Rattle.io_messages.specs.declared.requests.Request.TheVariants as request

pub data Asked : Type 0 where
  clone : (endpoint : ℕ) → Asked
  close : Asked
  query : Asked
  get_attributes : (bits : ℕ) → Asked
  sync : Asked
  open_path : (path : List ℕ) (flags : ℕ) (attributes : Option ℕ) (object : ℕ) → Asked
  read_dirents : (max_bytes : ℕ) → Asked
  rewind : Asked
  get_token : Asked
  rename : (src : List ℕ) (token : ℕ) (dst : List ℕ) → Asked
  link : (src : List ℕ) (token : ℕ) (dst : List ℕ) → Asked
  unlink : (name : List ℕ) (flags : ℕ) → Asked
  watch : (mask options watcher : ℕ) → Asked
  read : (count : ℕ) → Asked
  read_at : (count offset : ℕ) → Asked
  write : (bytes : List ℕ) → Asked
  write_at : (bytes : List ℕ) (offset : ℕ) → Asked
  seek : (origin : ℕ) (offset : ℤ) → Asked
  resize : (size : ℕ) → Asked
  echo_string : (value : List ℕ) → Asked

abbrev pub method_of : Asked → Method
method_of (clone endpoint) = method.Clone
method_of close = method.Close
method_of query = method.Query
method_of (get_attributes bits) = method.GetAttributes
method_of sync = method.Sync
method_of (open_path path flags attributes object) = method.OpenPath
method_of (read_dirents max_bytes) = method.ReadDirents
method_of rewind = method.Rewind
method_of get_token = method.GetToken
method_of (rename src token dst) = method.Rename
method_of (link src token dst) = method.Link
method_of (unlink name flags) = method.Unlink
method_of (watch mask options watcher) = method.Watch
method_of (read count) = method.Read
method_of (read_at count offset) = method.ReadAt
method_of (write bytes) = method.Write
method_of (write_at bytes offset) = method.WriteAt
method_of (seek origin offset) = method.Seek
method_of (resize size) = method.Resize
method_of (echo_string value) = method.EchoString

-- what a request of the code says
abbrev pub asked : Request → Asked
asked (request.Clone endpoint) = clone endpoint
asked request.Close = close
asked request.Query = query
asked (request.GetAttributes bits) = get_attributes bits
asked request.Sync = sync
asked (request.OpenPath path flags attributes object) = open_path path.now flags attributes object
asked (request.ReadDirents max_bytes) = read_dirents max_bytes
asked request.Rewind = rewind
asked request.GetToken = get_token
asked (request.Rename src token dst) = rename src.now token dst.now
asked (request.Link src token dst) = link src.now token dst.now
asked (request.Unlink name flags) = unlink name.now flags
asked (request.Watch mask options watcher) = watch mask options watcher
asked (request.Read count) = read count
asked (request.ReadAt count offset) = read_at count offset
asked (request.Write bytes) = write bytes.now
asked (request.WriteAt bytes offset) = write_at bytes.now offset
asked (request.Seek origin offset) = seek origin offset
asked (request.Resize size) = resize size
asked (request.EchoString value) = echo_string value.now
