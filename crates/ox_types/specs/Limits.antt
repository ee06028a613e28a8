-- The greatest values that the store takes. Each stands here alone, and beside it in src/limits.rt.
use Rattle.std.specs.Prelude.{ℕ}

-- the most bytes of a key
abbrev pub key_limit : ℕ
key_limit = 4096

-- the most bytes of a value: 1 MiB
abbrev pub value_limit : ℕ
value_limit = 1048576

-- the most bytes of a command: 2 MiB
abbrev pub command_limit : ℕ
command_limit = 2097152

-- the most that a shard's state weighs: 256 MiB
abbrev pub weight_limit : ℕ
weight_limit = 268435456

-- the most items of a page
abbrev pub page_items : ℕ
page_items = 1000

-- the most bytes of a page's items: 3 MiB
abbrev pub page_bytes : ℕ
page_bytes = 3145728

-- the most bytes of a snapshot: 384 MiB
abbrev pub saved_limit : ℕ
saved_limit = 402653184

-- the greatest term: 2^53
abbrev pub term_limit : ℕ
term_limit = 9007199254740992

-- the greatest number of entries: 2^53
abbrev pub count_limit : ℕ
count_limit = 9007199254740992

-- the greatest offset of an entry: one below the greatest number of entries
abbrev pub offset_limit : ℕ
offset_limit = 9007199254740991

-- the greatest time (ms): 2^53
abbrev pub time_limit : ℕ
time_limit = 9007199254740992
