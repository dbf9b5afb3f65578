-- How much of a file is in memory at a time.
use Rattle.std.specs.Prelude.{ℕ, ◌*◌, ◌/◌, cond, ltb}
use Rattle.value.specs.declared.Kind.{Kind}
use Rattle.value.specs.Kinds.{bytes_of}
use Rattle.block.specs.Migrate.{row_places}

-- the bytes of a buffer
abbrev pub buffer_bytes : ℕ
buffer_bytes = 262144

-- how many samples of one width are read at once, to become samples of another: wider ones fill a buffer, else there are as many as a row has places
abbrev pub block_samples : ℕ → ℕ → ℕ
block_samples own other = cond (ltb own other) (buffer_bytes / other) row_places

-- their bytes
abbrev pub block_bytes : Kind → Kind → ℕ
block_bytes from to = block_samples (bytes_of from) (bytes_of to) * bytes_of from
