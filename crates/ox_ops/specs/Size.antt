-- How many bytes the texts of commands have.
use Rattle.std.specs.Prelude.{ℕ, length}
use Rattle.ox_order.specs.declared.range.KeyRange.{KeyRange}
use Rattle.ox_order.specs.Forms.{key_range}
use Rattle.ox_ops.specs.declared.write.Put.{Put}
use Rattle.ox_ops.specs.declared.write.Delete.{Delete}
use Rattle.ox_ops.specs.declared.write.WriteBatch.{WriteBatch}
use Rattle.ox_ops.specs.declared.write.ShardCommand.TheVariants.{Write}
use Rattle.ox_ops.specs.Forms.{put, delete, command}

-- the bytes of a put's text
abbrev pub put_size : Put → ℕ
put_size p = length (put.text p)

-- the bytes of a delete's text
abbrev pub delete_size : Delete → ℕ
delete_size d = length (delete.text d)

-- the bytes of a range's text
abbrev pub range_size : KeyRange → ℕ
range_size r = length (key_range.text r)

-- the bytes of the text of a write
abbrev pub write_size : WriteBatch → ℕ
write_size b = length (command.text (Write b))
