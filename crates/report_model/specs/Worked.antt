-- The reports of the runs that were made by hand.
use Rattle.std.specs.Prelude.{ℕ, ◌≡◌, List, ◌++◌, codes}
use Rattle.tlm_types.specs.declared.entry.Entry.{Entry}
use Rattle.tlm_model.specs.declared.trace.Trace.TheVariants.{All}
use Rattle.tlm_model.specs.Plan.{Plan}
use Rattle.report_model.specs.Report.{report_of}

-- the report of this history with all its entries is this text
abbrev pub HasReport : Plan → List Entry → List ℕ → Type 0
HasReport p h text = report_of All p h ≡ text

abbrev pub readback_text : List ℕ
readback_text = codes "tlm-report 1\n0 0 cpu.0 ram blocking write 0x10 4 be=- sw=4 deadbeef ok\n1 10 cpu.1 ram blocking read 0x10 4 be=- sw=4 deadbeef ok\ninitiator cpu blocking transactions 2 refused 0 syncs 2 end 20\nmemory ram 256\n00000010 deadbeef000000000000000000000000\nend 2\n"

abbrev pub empty_text : List ℕ
empty_text = codes "tlm-report 1\ninitiator cpu blocking transactions 0 refused 0 syncs 0 end 0\nmemory ram 256\nend 0\n"

abbrev pub past_end_text : List ℕ
past_end_text = codes "tlm-report 1\n0 0 cpu.0 ram blocking write 0xfe 2 be=- sw=2 aabb ok\n1 10 cpu.1 ram blocking write 0xff 2 be=- sw=2 ccdd address_error\ninitiator cpu blocking transactions 2 refused 0 syncs 2 end 20\nmemory ram 256\n000000f0 0000000000000000000000000000aabb\nend 2\n"

abbrev pub enables_text : List ℕ
enables_text = codes "tlm-report 1\n0 0 cpu.0 ram blocking write 0x0 4 be=ff00 sw=4 01020304 ok\ninitiator cpu blocking transactions 1 refused 0 syncs 1 end 10\nmemory ram 256\n00000000 01000300000000000000000000000000\nend 1\n"

abbrev pub streaming_text : List ℕ
streaming_text = codes "tlm-report 1\n0 0 cpu.0 ram blocking write 0x0 5 be=- sw=2 0102030405 ok\ninitiator cpu blocking transactions 1 refused 0 syncs 1 end 10\nmemory ram 256\n00000000 05040000000000000000000000000000\nend 1\n"

abbrev pub ignore_text : List ℕ
ignore_text = codes "tlm-report 1\n0 0 cpu.0 ram blocking ignore 0xfff 0 be=- sw=0 - ok\ninitiator cpu blocking transactions 1 refused 0 syncs 1 end 10\nmemory ram 256\nend 1\n"

abbrev pub debug_text : List ℕ
debug_text = codes "tlm-report 1\n0 0 cpu.0 ram blocking write 0xfe 2 be=- sw=2 aabb ok\n1 10 cpu.1 ram debug read 0xfe 4 be=- sw=4 aabb ok\ninitiator cpu blocking transactions 2 refused 0 syncs 2 end 10\nmemory ram 256\n000000f0 0000000000000000000000000000aabb\nend 2\n"

abbrev pub sum_text : List ℕ
sum_text = codes "tlm-report 1\n0 0 cpu.0 ram blocking write 0x0 4 be=- sw=4 ffffffff ok\n1 10 cpu.1 ram blocking read 0x0 4 be=- sw=4 ffffffff ok\n2 20 cpu.2 ram blocking write 0x0 4 be=- sw=4 01000000 ok\n3 30 cpu.3 ram blocking read 0x0 4 be=- sw=4 01000000 ok\n4 40 cpu.4 ram blocking write 0x8 4 be=- sw=4 01000000 ok\ninitiator cpu blocking transactions 5 refused 0 syncs 3 end 50\nmemory ram 256\n00000000 01000000000000000100000000000000\nend 5\n"

abbrev pub routed_text : List ℕ
routed_text = codes "tlm-report 1\n0 5 cpu.0 ram blocking read 0x0 1 be=- sw=1 00 ok\n1 25 cpu.2 ram blocking read 0x1 1 be=- sw=1 00 ok\ninitiator cpu blocking transactions 3 refused 1 syncs 3 end 35\nrefused cpu.1 15 read 0x1000\nmemory ram 256\nend 2\n"

abbrev pub seven_reads_text : List ℕ → List ℕ
seven_reads_text syncs = codes "tlm-report 1\n0 0 cpu.0 ram blocking read 0x0 1 be=- sw=1 00 ok\n1 30 cpu.1 ram blocking read 0x0 1 be=- sw=1 00 ok\n2 60 cpu.2 ram blocking read 0x0 1 be=- sw=1 00 ok\n3 90 cpu.3 ram blocking read 0x0 1 be=- sw=1 00 ok\n4 120 cpu.4 ram blocking read 0x0 1 be=- sw=1 00 ok\n5 150 cpu.5 ram blocking read 0x0 1 be=- sw=1 00 ok\n6 180 cpu.6 ram blocking read 0x0 1 be=- sw=1 00 ok\ninitiator cpu blocking transactions 7 refused 0 syncs " ++ (syncs ++ codes " end 210\nmemory ram 256\nend 7\n")
