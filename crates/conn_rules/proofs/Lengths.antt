-- An Open that goes on fits into a message.
use Rattle.std.proofs.Common.{◌≡◌, ℕ, ◌+◌, ◌≤◌, List, [], ◌∷◌, ◌++◌, length, replicate, None, ap, length-append, arith}
use Rattle.std.proofs.lemmas.List.{append-nil, length-replicate}
use Rattle.byteorder.specs.Numbers.{length-bytes_low_first}
use Rattle.fidl_names.specs.declared.limits.TheConstants as limit
use Rattle.fidl_wire.specs.declared.headers.Header.{Header}
use Rattle.fidl_wire.specs.Headers.{header_bytes, flags_of}
use Rattle.fidl_names.specs.Numbers.{number_bytes}
use Rattle.fidl_wire.specs.Numbers.{padding_after}
use Rattle.fidl_wire.specs.Reading.{present_word, present_list}
use Rattle.fidl_wire.specs.Spelling.{count_bytes}
use Rattle.fidl_wire.specs.Written.{padded_bytes}
use Rattle.io_messages.specs.Asked as asks
use Rattle.io_messages.specs.Writing.{request_body, request_bytes, plain_header}
use Rattle.fidl_names.specs.declared.methods.Method.TheVariants as method
use Rattle.fidl_wire.specs.Names.{method_ordinal}

length-number : (size x : ℕ) → length (number_bytes size x) ≡ size
unfolding number_bytes
length-number size x = length-bytes_low_first 0 size x

length-count : (n : ℕ) → length (count_bytes n) ≡ 16
length-count n = omega (arith, length-append (number_bytes 8 n) (number_bytes 8 present_list), length-number 8 n, length-number 8 present_list)

length-header : (h : Header) → length (header_bytes h) ≡ 16
length-header h =
    omega (arith, length-append (number_bytes 4 h.txid ++ 0x02 ∷ 0 ∷ flags_of h.flexible ∷ 1 ∷ []) (number_bytes 8 h.ordinal), length-append (number_bytes 4 h.txid) (0x02 ∷ 0 ∷ flags_of h.flexible ∷ 1 ∷ []), length-number 4 h.txid, length-number 8 h.ordinal)

zeros : ℕ → List ℕ
zeros n = replicate n 0

length-padded : (xs : List ℕ) → length (padded_bytes xs) ≤ length xs + 7
unfolding padding_after
length-padded xs =
    let zero : ℕ = 0 in
    omega (arith, length-append xs (replicate (padding_after (length xs)) 0), length-replicate (padding_after (length xs)) zero)

-- the path's count, the flags, the options' count, the endpoint's mark, the padding
open_fields : (count flags : ℕ) → List ℕ
open_fields count flags = count_bytes count ++ (number_bytes 8 flags ++ (count_bytes 0 ++ (number_bytes 4 present_word ++ (replicate 4 0 ++ []))))

length-fields : (count flags : ℕ) → length (open_fields count flags) ≡ 48
unfolding open_fields
length-fields count flags =
    omega (
      arith,
      length-append (count_bytes count) (number_bytes 8 flags ++ (count_bytes 0 ++ (number_bytes 4 present_word ++ (replicate 4 0 ++ [])))),
      length-append (number_bytes 8 flags) (count_bytes 0 ++ (number_bytes 4 present_word ++ (replicate 4 0 ++ []))),
      length-append (count_bytes 0) (number_bytes 4 present_word ++ (replicate 4 0 ++ [])),
      length-append (number_bytes 4 present_word) (replicate 4 0 ++ []),
      length-count count,
      length-count 0,
      length-number 8 flags,
      length-number 4 present_word,
    )

body_is : (path : List ℕ) (flags object : ℕ) →
    request_body (asks.open_path path flags None object) ≡ padded_bytes (open_fields (length path) flags) ++ padded_bytes path
unfolding open_fields
body_is path flags object = ap (λ tail. padded_bytes (open_fields (length path) flags) ++ tail) (append-nil (padded_bytes path))

length-body : (path : List ℕ) (flags object : ℕ) → length path ≤ 4095 → length (request_body (asks.open_path path flags None object)) ≤ 4157
length-body path flags object short =
    rw (body_is path flags object)
    (omega (arith, length-append (padded_bytes (open_fields (length path) flags)) (padded_bytes path), length-padded (open_fields (length path) flags), length-padded path, length-fields (length path) flags, short))

pub onward_fits : (path : List ℕ) (flags object : ℕ) → length path ≤ 4095 → length (request_bytes 0 (asks.open_path path flags None object)) ≤ limit.MAX_BYTES
onward_fits path flags object short =
    omega (
      arith,
      length-append (header_bytes (plain_header 0 (method_ordinal method.OpenPath))) (request_body (asks.open_path path flags None object)),
      length-header (plain_header 0 (method_ordinal method.OpenPath)),
      length-body path flags object short,
    )
