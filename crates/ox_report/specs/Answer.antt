-- The text of the answer to a query.
use Rattle.std.specs.Prelude.{ℕ, Bool, true, false, List, ◌++◌, length, Some, None, codes}
use Rattle.std.specs.List.{flat_map}
use Rattle.ox_ops.specs.declared.answer.Record.{Record}
use Rattle.ox_ops.specs.declared.answer.ShardAnswer.{ShardAnswer}
use Rattle.ox_ops.specs.declared.answer.ShardAnswer.TheVariants as answer
use Rattle.ox_ops.specs.declared.notice.Notice.{Notice}
use Rattle.ox_ops.specs.declared.notice.Notice.TheVariants as notice
use Rattle.ox_ops.specs.declared.notice.NoticeItem.{NoticeItem}
use Rattle.ox_ops.specs.declared.write.IndexEntry.{IndexEntry}
use Rattle.ox_text.specs.Words.{behind_space, spaced, spelt, value_word, range_words, field, field_or}
use Rattle.ox_report.specs.Field.{meta_fields}

-- ---- records

-- an entry of an index, behind a space: the index's name and the secondary key
abbrev pub index_text : IndexEntry → List ℕ
index_text e = codes " " ++ spelt e.name ++ codes ":" ++ spelt e.key

-- key, value, how the record came about, its session or `-`, and its index entries
abbrev pub record_text : Record → List ℕ
record_text r = spelt r.key ++ codes " " ++ value_word r.value ++ meta_fields r.meta ++ field_or (codes "-") r.session ++ flat_map index_text r.indexes

-- ---- notices

-- what a notice says
abbrev pub notice_text : Notice → List ℕ
notice_text (notice.Created key version) = codes "created " ++ spelt key ++ field version
notice_text (notice.Modified key version) = codes "modified " ++ spelt key ++ field version
notice_text (notice.Deleted key) = codes "deleted " ++ spelt key
notice_text (notice.Ranged range) = codes "ranged" ++ spaced (range_words range)

-- ---- pages

-- whether the page is all that there is
abbrev pub all_word : Bool → List ℕ
all_word true = codes "more"
all_word false = codes "all"

-- the head of a page: what it has, how many, and whether there are more
abbrev pub page_head : List ℕ → ℕ → Bool → List ℕ
page_head word count more = word ++ field count ++ behind_space (all_word more)

-- a key of a page, behind a space
abbrev pub key_item : List ℕ → List ℕ
key_item key = behind_space (spelt key)

-- a record of a page, behind a bar
abbrev pub record_item : Record → List ℕ
record_item r = codes " | " ++ record_text r

-- a notice of a page, behind a bar, with the offset of its entry
abbrev pub notice_item : NoticeItem → List ℕ
notice_item i = codes " |" ++ field i.offset ++ codes " " ++ notice_text i.notice

-- ---- answers

-- the answer: its word and its fields in order
abbrev pub answer_text : ShardAnswer → List ℕ
answer_text (answer.Got None) = codes "none"
answer_text (answer.Got (Some r)) = codes "record " ++ record_text r
answer_text (answer.Keys keys more) = page_head (codes "keys") (length keys) more ++ flat_map key_item keys
answer_text (answer.Records records more) = page_head (codes "records") (length records) more ++ flat_map record_item records
answer_text (answer.Notices items more) = page_head (codes "notices") (length items) more ++ flat_map notice_item items
answer_text (answer.NotRetained asked low) = codes "not-retained" ++ field asked ++ field low
answer_text answer.Alive = codes "alive"
answer_text (answer.SessionDoesNotExist session) = codes "no-session" ++ field session
