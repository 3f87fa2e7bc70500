-- The adapters over the world: a source that reads a reader, and a sink that writes into a writer.
use Rattle.std.specs.Prelude.{ℕ, Bool}
use Rattle.sp_io.specs.declared.source.ReadSource.{ReadSource}
use Rattle.sp_io.specs.declared.sink.WriteSink.{WriteSink}

-- the reader of a source
abbrev pub reader_of : {R : Type 0} → ReadSource R → R
reader_of source = source.inner

-- how often the reader failed
abbrev pub read_faults : {R : Type 0} → ReadSource R → ℕ
read_faults source = source.faults

-- whether the reader's end was met
abbrev pub has_ended : {R : Type 0} → ReadSource R → Bool
has_ended source = source.ended

-- whether the source is done with
abbrev pub reading_is_done : {R : Type 0} → ReadSource R → Bool
reading_is_done source = source.done

-- the writer of a sink
abbrev pub writer_of : {W : Type 0} → WriteSink W → W
writer_of sink = sink.inner

-- how often the writer failed
abbrev pub write_faults : {W : Type 0} → WriteSink W → ℕ
write_faults sink = sink.faults

-- whether the sink is done with
abbrev pub writing_is_done : {W : Type 0} → WriteSink W → Bool
writing_is_done sink = sink.done
