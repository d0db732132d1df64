-- The messages of the workload's requests are far from too long.
use Rattle.std.proofs.Common.{◌≡◌, ℕ, ◌+◌, ◌-◌, ◌%◌, ◌<◌, ◌≤◌, true, List, [], ◌∷◌, ◌++◌, length, replicate, None, arith, mod-lt, length-append}
use Rattle.std.proofs.lemmas.Bool.{le-leb}
use Rattle.std.proofs.lemmas.List.{length-replicate}
use Rattle.byteorder.specs.Numbers.{length-bytes_low_first}
use Rattle.fidl_names.specs.declared.limits.TheConstants as limit
use Rattle.fidl_names.specs.Numbers.{number_bytes}
use Rattle.fidl_wire.specs.Grammar.{Part, join, nothing}
use Rattle.fidl_wire.specs.Headers.{header_bytes}
use Rattle.fidl_wire.specs.Layout.{Cell, Item, number, pad, text, vector, num, blank, seq, members}
use Rattle.fidl_wire.specs.Names.{method_ordinal}
use Rattle.fidl_wire.specs.Numbers.{padding_after}
use Rattle.fidl_wire.specs.Reading.{present_list, present_word}
use Rattle.fidl_wire.specs.Spelling.{count_bytes, object_bytes, spelling_of, spelling_of_all}
use Rattle.fidl_wire.specs.Written.{padded_bytes}
use Rattle.io_messages.specs.Asked.{Asked, method_of}
use Rattle.io_messages.specs.Asked as asks
use Rattle.io_messages.specs.Requests.{an_endpoint, held_endpoint, items_of, options, request_cells}
use Rattle.io_messages.specs.Writing.{plain_header, request_bytes, request_body}
use Rattle.vfs_script.specs.Lines.{fits_at, request, txid_at}

-- ---- bytes

length-number : (size x : ℕ) → length (number_bytes size x) ≡ size
unfolding number_bytes
length-number size x = length-bytes_low_first 0 size x

length-count : (n : ℕ) → length (count_bytes n) ≡ 16
length-count n = omega (arith, length-append (number_bytes 8 n) (number_bytes 8 present_list), length-number 8 n, length-number 8 present_list)

padding_small : (n : ℕ) → padding_after n < 8
unfolding padding_after
padding_small n = mod-lt (8 - n % 8) (omega arith)

padded_small : (xs : List ℕ) → length (padded_bytes xs) ≤ length xs + 7
padded_small xs =
    let small = padding_small (length xs) in
    let zeros : length {A = ℕ} (replicate (padding_after (length xs)) 0) ≡ padding_after (length xs) = length-replicate (padding_after (length xs)) 0 in
    omega (arith, small, zeros, length-append xs (replicate (padding_after (length xs)) 0))

-- ---- parts

abbrev pub size : Part → ℕ
size p = length p.inline + length p.outside

join_size : (p q : Part) (m n : ℕ) → size p ≤ m → size q ≤ n → size (join p q) ≤ m + n
join_size p q m n a b = omega (arith, a, b, length-append p.inline q.inline, length-append p.outside q.outside)

none_size : size nothing ≤ 0
none_size = omega arith

number_size : (n x : ℕ) → size (spelling_of (number n) (num x)) ≤ n
number_size n x = omega (arith, length-number n x)

text_size : (xs : List ℕ) → size (spelling_of text (seq xs)) ≤ 23 + length xs
text_size xs = let small = padded_small xs in omega (arith, small, length-count (length xs))

vector_size : (xs : List ℕ) → size (spelling_of vector (seq xs)) ≤ 23 + length xs
vector_size xs = let small = padded_small xs in omega (arith, small, length-count (length xs))

object_size : (p : Part) → length (object_bytes p) ≤ size p + 7
object_size p = let small = padded_small p.inline in omega (arith, small, length-append (padded_bytes p.inline) p.outside)

-- ---- requests

abbrev pub fields_size : Asked → ℕ
fields_size a = size (spelling_of_all (request_cells (method_of a)) (items_of a))

sixteen : (txid flags ordinal : ℕ) → length (number_bytes 4 txid ++ (2 ∷ 0 ∷ flags ∷ 1 ∷ []) ++ number_bytes 8 ordinal) ≡ 16
sixteen txid flags ordinal =
    omega (arith, length-append (number_bytes 4 txid ++ (2 ∷ 0 ∷ flags ∷ 1 ∷ [])) (number_bytes 8 ordinal), length-append (number_bytes 4 txid) (2 ∷ 0 ∷ flags ∷ 1 ∷ []), length-number 4 txid, length-number 8 ordinal)

header_size : (txid : ℕ) (a : Asked) → length (header_bytes (plain_header txid (method_ordinal (method_of a)))) ≡ 16
header_size txid a = sixteen txid _ (method_ordinal (method_of a))

pub fits_by : (a : Asked) (n : ℕ) → fields_size a ≤ n → n ≤ 60000 → (place endpoint : ℕ) → fits_at place (request endpoint a) ≡ true
fits_by a n small few place endpoint =
    let head = header_size (txid_at place a) a in
    let body = object_size (spelling_of_all (request_cells (method_of a)) (items_of a)) in
    let both = length-append (header_bytes (plain_header (txid_at place a) (method_ordinal (method_of a)))) (request_body a) in
    le-leb (length (request_bytes (txid_at place a) a)) limit.MAX_BYTES (omega (arith, head, body, both, small, few))

cons_size : (cell : Cell) (x : Item) (cells : List Cell) (xs : List Item) (m n : ℕ) → size (spelling_of cell x) ≤ m → size (spelling_of_all cells xs) ≤ n →
    size (spelling_of_all (cell ∷ cells) (x ∷ xs)) ≤ m + n
cons_size cell x cells xs m n a b = join_size (spelling_of cell x) (spelling_of_all cells xs) m n a b

no_members : size (spelling_of options (members (None ∷ []))) ≤ 16
no_members = omega (arith, length-count 0)

endpoint_size : (n : ℕ) → size (spelling_of an_endpoint (held_endpoint n)) ≤ 4
endpoint_size n = omega (arith, length-number 4 present_word)

pad_size : size (spelling_of (pad 4) blank) ≤ 4
pad_size = omega arith

one_number : (n : ℕ) → size (spelling_of_all (number 8 ∷ []) (num n ∷ [])) ≤ 8
one_number n = cons_size (number 8) (num n) [] [] 8 0 (number_size 8 n) none_size

pub open_fits : (path : List ℕ) (flags object : ℕ) → length path ≤ 1000 → (place endpoint : ℕ) → fits_at place (request endpoint (asks.open_path path flags None object)) ≡ true
open_fits path flags object short =
    fits_by (asks.open_path path flags None object) (23 + length path + (8 + (16 + (4 + (4 + 0)))))
    (cons_size text (seq path) (number 8 ∷ options ∷ an_endpoint ∷ pad 4 ∷ []) (num flags ∷ members (None ∷ []) ∷ held_endpoint object ∷ blank ∷ []) (23 + length path) (8 + (16 + (4 + (4 + 0)))) (text_size path)
    (cons_size (number 8) (num flags) (options ∷ an_endpoint ∷ pad 4 ∷ []) (members (None ∷ []) ∷ held_endpoint object ∷ blank ∷ []) 8 (16 + (4 + (4 + 0))) (number_size 8 flags)
    (cons_size options (members (None ∷ [])) (an_endpoint ∷ pad 4 ∷ []) (held_endpoint object ∷ blank ∷ []) 16 (4 + (4 + 0)) no_members
    (cons_size an_endpoint (held_endpoint object) (pad 4 ∷ []) (blank ∷ []) 4 (4 + 0) (endpoint_size object)
    (cons_size (pad 4) blank [] [] 4 0 pad_size none_size)))))
    (omega (arith, short))

pub watch_fits : (mask watcher place endpoint : ℕ) → fits_at place (request endpoint (asks.watch mask 0 watcher)) ≡ true
watch_fits mask watcher =
    fits_by (asks.watch mask 0 watcher) (4 + (4 + (4 + 0)))
    (cons_size (number 4) (num mask) (number 4 ∷ an_endpoint ∷ []) (num 0 ∷ held_endpoint watcher ∷ []) 4 (4 + (4 + 0)) (number_size 4 mask)
    (cons_size (number 4) (num 0) (an_endpoint ∷ []) (held_endpoint watcher ∷ []) 4 (4 + 0) (number_size 4 0)
    (cons_size an_endpoint (held_endpoint watcher) [] [] 4 0 (endpoint_size watcher) none_size)))
    (omega arith)

pub write_fits : (bytes : List ℕ) → length bytes ≤ 1000 → (place endpoint : ℕ) → fits_at place (request endpoint (asks.write bytes)) ≡ true
write_fits bytes short =
    fits_by (asks.write bytes) (23 + length bytes + 0) (cons_size vector (seq bytes) [] [] (23 + length bytes) 0 (vector_size bytes) none_size) (omega (arith, short))

pub read_fits : (count place endpoint : ℕ) → fits_at place (request endpoint (asks.read count)) ≡ true
read_fits count = fits_by (asks.read count) 8 (one_number count) (omega arith)

pub list_fits : (most place endpoint : ℕ) → fits_at place (request endpoint (asks.read_dirents most)) ≡ true
list_fits most = fits_by (asks.read_dirents most) 8 (one_number most) (omega arith)

pub unlink_fits : (name : List ℕ) → length name ≤ 1000 → (place endpoint : ℕ) → fits_at place (request endpoint (asks.unlink name 0)) ≡ true
unlink_fits name short =
    fits_by (asks.unlink name 0) (23 + length name + (16 + 0))
    (cons_size text (seq name) (options ∷ []) (members (None ∷ []) ∷ []) (23 + length name) (16 + 0) (text_size name) (cons_size options (members (None ∷ [])) [] [] 16 0 no_members none_size))
    (omega (arith, short))
