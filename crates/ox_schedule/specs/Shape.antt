-- The shape of a line: its words but for numbers, names, keys, values and options, and how many there are.
use Rattle.std.specs.Prelude.{ℕ, Bool, false, ◌&&◌, ◌||◌, ◌==◌, nat_le, Option, Some, None, List, [], ◌∷◌, length, codes, if◌then◌else◌}
use Rattle.std.specs.List.{list_all, onto_first}
use Rattle.std.specs.Str.{bytes_eq}

-- the operations of a batch, between one + and the next
abbrev pub ops_in : List (List ℕ) → List (List (List ℕ))
ops_in [] = [] ∷ []
ops_in (w ∷ ws) = if bytes_eq w (codes "+") then [] ∷ ops_in ws else onto_first w (ops_in ws)

-- the operations in what is left, if anything is
abbrev pub ops_left : Option (List (List ℕ)) → List (List (List ℕ))
ops_left None = []
ops_left (Some ws) = ops_in ws

-- is the word a comparison?
abbrev pub is_compare : List ℕ → Bool
is_compare w = bytes_eq w (codes "equal") || bytes_eq w (codes "floor") || bytes_eq w (codes "ceiling") || bytes_eq w (codes "lower") || bytes_eq w (codes "higher")

-- a write, with this many words behind its own
unfoldable pub write_fits : List ℕ → ℕ → Bool
write_fits verb count =
    if bytes_eq verb (codes "put") then nat_le 2 count
    else (if bytes_eq verb (codes "delete") then nat_le 1 count && nat_le count 2
    else (if bytes_eq verb (codes "deleterange") then count == 2 else false))

-- the words of an operation
abbrev pub op_fits : List (List ℕ) → Bool
op_fits [] = false
op_fits (verb ∷ ws) = write_fits verb (length ws)

-- behind `get`: a comparison, a key, and at most one option
abbrev pub get_fits : List (List ℕ) → Bool
get_fits [] = false
get_fits (compare ∷ ws) = is_compare compare && nat_le 1 (length ws) && nat_le (length ws) 2

-- behind `list` and `scan`: two ends, and at most one option
abbrev pub range_fits : ℕ → Bool
range_fits count = nat_le 2 count && nat_le count 3

-- a request that isn't a read of records and no batch: notices with two numbers, a session's with one, or a write
unfoldable pub single_fits : List ℕ → ℕ → Bool
single_fits verb count =
    if bytes_eq verb (codes "notices") then count == 2
    else (if bytes_eq verb (codes "open") then count == 1
    else (if bytes_eq verb (codes "close") then count == 1
    else (if bytes_eq verb (codes "keep") then count == 1
    else write_fits verb count)))

-- the words of a request
unfoldable pub request_fits : List (List ℕ) → Bool
request_fits [] = false
request_fits (verb ∷ ws) =
    if bytes_eq verb (codes "batch") then list_all op_fits (ops_in ws)
    else (if bytes_eq verb (codes "get") then get_fits ws
    else (if bytes_eq verb (codes "list") then range_fits (length ws)
    else (if bytes_eq verb (codes "scan") then range_fits (length ws)
    else single_fits verb (length ws))))

-- behind `client`: a node, a shard and a request
abbrev pub client_fits : List (List ℕ) → Bool
client_fits [] = false
client_fits (node ∷ []) = false
client_fits (node ∷ shard ∷ ws) = request_fits ws

-- the words of what an actor takes: behind `deliver` a message, behind `tick` a node, a shard and a time
unfoldable pub turn_fits : List (List ℕ) → Bool
turn_fits [] = false
turn_fits (verb ∷ ws) =
    if bytes_eq verb (codes "client") then client_fits ws
    else (if bytes_eq verb (codes "deliver") then length ws == 1
    else (if bytes_eq verb (codes "tick") then length ws == 3 else false))

-- is the word one of what a cut leaves?
abbrev pub is_image : List ℕ → Bool
is_image w = bytes_eq w (codes "none") || bytes_eq w (codes "kept") || bytes_eq w (codes "torn")

-- behind `cut`: a number, what is left, and what the actor takes
abbrev pub cut_fits : List (List ℕ) → Bool
cut_fits [] = false
cut_fits (call ∷ []) = false
cut_fits (call ∷ left ∷ ws) = is_image left && turn_fits ws

-- the words of an event: a cut, a node that stops, starts or is lost, a node, a shard and a term, or what an actor takes
unfoldable pub event_fits : List (List ℕ) → Bool
event_fits [] = false
event_fits (verb ∷ ws) =
    if bytes_eq verb (codes "cut") then cut_fits ws
    else (if bytes_eq verb (codes "stop") then length ws == 1
    else (if bytes_eq verb (codes "start") then length ws == 1
    else (if bytes_eq verb (codes "lose") then length ws == 1
    else (if bytes_eq verb (codes "fence") then length ws == 3
    else (if bytes_eq verb (codes "lead") then length ws == 3
    else turn_fits (verb ∷ ws))))))
