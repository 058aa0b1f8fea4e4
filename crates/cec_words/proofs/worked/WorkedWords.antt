-- Written by hand, with values of the reference implementation: worked lists of words, with what the reference implementation reads in them.
use Rattle.std.proofs.Common.{◌≡◌, [], ◌∷◌, codes, refl, Some, None, true, false}
use Rattle.cec_words.specs.declared.asked.Via.TheVariants as vias
use Rattle.cec_words.specs.declared.asked.Pick.TheVariants.{First, Last, Drawn}
use Rattle.cec_words.specs.declared.asked.Asked.TheVariants as asks
use Rattle.cec_words.specs.Readings.{asked_by}

words_0 : asked_by ([]) ≡ None
words_0 = refl

words_1 : asked_by (codes "--help" ∷ []) ≡ Some asks.Help
words_1 = refl

words_2 : asked_by (codes "--help" ∷ codes "x" ∷ []) ≡ None
words_2 = refl

words_3 : asked_by (codes "blif" ∷ []) ≡ None
words_3 = refl

words_4 : asked_by (codes "blif" ∷ codes "a" ∷ []) ≡ Some (asks.Blif (record { file = 1; main = None; pick = First; encode = false; guard = false }))
words_4 = refl

words_5 : asked_by (codes "blif" ∷ codes "a" ∷ codes "b" ∷ []) ≡ None
words_5 = refl

words_6 : asked_by (codes "blif" ∷ codes "-a" ∷ []) ≡ None
words_6 = refl

words_7 : asked_by (codes "blif" ∷ codes "--main" ∷ []) ≡ None
words_7 = refl

words_8 : asked_by (codes "blif" ∷ codes "--main" ∷ codes "-x" ∷ codes "a" ∷ []) ≡ None
words_8 = refl

words_9 : asked_by (codes "blif" ∷ codes "--main" ∷ codes "x" ∷ codes "a" ∷ []) ≡
    Some (asks.Blif (record { file = 3; main = Some (record { word = 2; start = 0 }); pick = First; encode = false; guard = false }))
words_9 = refl

words_10 : asked_by (codes "blif" ∷ codes "a" ∷ codes "--main" ∷ codes "x" ∷ []) ≡
    Some (asks.Blif (record { file = 1; main = Some (record { word = 3; start = 0 }); pick = First; encode = false; guard = false }))
words_10 = refl

words_11 : asked_by (codes "blif" ∷ codes "--main=x" ∷ codes "a" ∷ []) ≡
    Some (asks.Blif (record { file = 2; main = Some (record { word = 1; start = 7 }); pick = First; encode = false; guard = false }))
words_11 = refl

words_12 : asked_by (codes "blif" ∷ codes "--main=" ∷ codes "a" ∷ []) ≡ None
words_12 = refl

words_13 : asked_by (codes "blif" ∷ codes "--main=x" ∷ codes "--main" ∷ codes "y" ∷ codes "a" ∷ []) ≡ None
words_13 = refl

words_14 : asked_by (codes "blif" ∷ codes "--main=-x" ∷ codes "a" ∷ []) ≡
    Some (asks.Blif (record { file = 2; main = Some (record { word = 1; start = 7 }); pick = First; encode = false; guard = false }))
words_14 = refl

words_15 : asked_by (codes "blif" ∷ codes "--pick" ∷ codes "first" ∷ codes "a" ∷ []) ≡
    Some (asks.Blif (record { file = 3; main = None; pick = First; encode = false; guard = false }))
words_15 = refl

words_16 : asked_by (codes "blif" ∷ codes "--pick" ∷ codes "last" ∷ codes "a" ∷ []) ≡
    Some (asks.Blif (record { file = 3; main = None; pick = Last; encode = false; guard = false }))
words_16 = refl

words_17 : asked_by (codes "blif" ∷ codes "--pick" ∷ codes "18446744073709551615" ∷ codes "a" ∷ []) ≡
    Some (asks.Blif (record { file = 3; main = None; pick = (Drawn 18446744073709551615); encode = false; guard = false }))
words_17 = refl

words_18 : asked_by (codes "blif" ∷ codes "--pick" ∷ codes "18446744073709551616" ∷ codes "a" ∷ []) ≡ None
words_18 = refl

words_19 : asked_by (codes "blif" ∷ codes "--pick=007" ∷ codes "a" ∷ []) ≡
    Some (asks.Blif (record { file = 2; main = None; pick = (Drawn 7); encode = false; guard = false }))
words_19 = refl

words_20 : asked_by (codes "blif" ∷ codes "--pick" ∷ codes "x" ∷ codes "a" ∷ []) ≡ None
words_20 = refl

words_21 : asked_by (codes "blif" ∷ codes "--via" ∷ codes "blif" ∷ codes "a" ∷ []) ≡ None
words_21 = refl

words_22 : asked_by (codes "c" ∷ codes "a" ∷ []) ≡ Some (asks.C (record { file = 1; main = None; pick = First; encode = false; guard = false }))
words_22 = refl

words_23 : asked_by (codes "grc" ∷ codes "--main" ∷ codes "m" ∷ codes "a" ∷ []) ≡
    Some (asks.Grc (record { file = 3; main = Some (record { word = 2; start = 0 }); pick = First; encode = false; guard = false }))
words_23 = refl

words_24 : asked_by (codes "grc" ∷ codes "--pick" ∷ codes "first" ∷ codes "a" ∷ []) ≡ None
words_24 = refl

words_25 : asked_by (codes "check" ∷ codes "a" ∷ []) ≡ Some (asks.Check (record { file = 1; main = None; pick = First; encode = false; guard = false }))
words_25 = refl

words_26 : asked_by (codes "check" ∷ codes "--main" ∷ codes "m" ∷ codes "--main=n" ∷ codes "a" ∷ []) ≡ None
words_26 = refl

words_27 : asked_by (codes "run" ∷ codes "--via" ∷ codes "blif" ∷ codes "a" ∷ codes "b" ∷ []) ≡
    Some (asks.Run vias.Blif (record { file = 3; main = None; pick = First; encode = false; guard = false }) 4)
words_27 = refl

words_28 : asked_by (codes "run" ∷ codes "a" ∷ codes "b" ∷ []) ≡ None
words_28 = refl

words_29 : asked_by (codes "run" ∷ codes "--via" ∷ codes "c" ∷ codes "a" ∷ []) ≡ None
words_29 = refl

words_30 : asked_by (codes "run" ∷ codes "a" ∷ codes "--via=c" ∷ codes "b" ∷ codes "--pick" ∷ codes "last" ∷ codes "--main" ∷ codes "m" ∷ []) ≡
    Some (asks.Run vias.C (record { file = 1; main = Some (record { word = 7; start = 0 }); pick = Last; encode = false; guard = false }) 3)
words_30 = refl

words_31 : asked_by (codes "run" ∷ codes "--via" ∷ codes "grc" ∷ codes "a" ∷ codes "b" ∷ []) ≡ None
words_31 = refl

words_32 : asked_by (codes "exec" ∷ codes "--via" ∷ codes "c" ∷ codes "a" ∷ codes "b" ∷ []) ≡ Some (asks.Exec vias.C 3 4)
words_32 = refl

words_33 : asked_by (codes "exec" ∷ codes "--via" ∷ codes "c" ∷ codes "--main" ∷ codes "m" ∷ codes "a" ∷ codes "b" ∷ []) ≡ None
words_33 = refl

words_34 : asked_by (codes "exec" ∷ codes "--via" ∷ codes "c" ∷ codes "a" ∷ []) ≡ None
words_34 = refl

words_35 : asked_by (codes "gen" ∷ codes "--start" ∷ codes "7" ∷ codes "--branches" ∷ codes "1" ∷ []) ≡ Some (asks.Gen 7 1 None)
words_35 = refl

words_36 : asked_by (codes "gen" ∷ codes "--start" ∷ codes "7" ∷ codes "--branches" ∷ codes "0" ∷ []) ≡ None
words_36 = refl

words_37 : asked_by (codes "gen" ∷ codes "--start" ∷ codes "7" ∷ codes "--branches" ∷ codes "401" ∷ []) ≡ None
words_37 = refl

words_38 : asked_by (codes "gen" ∷ codes "--branches" ∷ codes "400" ∷ codes "--start=7" ∷ codes "--run" ∷ codes "100000" ∷ []) ≡
    Some (asks.Gen 7 400 (Some 100000))
words_38 = refl

words_39 : asked_by (codes "gen" ∷ codes "--start" ∷ codes "7" ∷ codes "--branches" ∷ codes "1" ∷ codes "--run" ∷ codes "100001" ∷ []) ≡ None
words_39 = refl

words_40 : asked_by (codes "gen" ∷ codes "--start" ∷ codes "7" ∷ codes "--branches" ∷ codes "1" ∷ codes "a" ∷ []) ≡ None
words_40 = refl

words_41 : asked_by (codes "gen" ∷ codes "--start" ∷ codes "7" ∷ []) ≡ None
words_41 = refl

words_42 : asked_by (codes "gen" ∷ codes "--branches" ∷ codes "7" ∷ []) ≡ None
words_42 = refl

words_43 : asked_by (codes "gen" ∷ codes "--start" ∷ codes "-7" ∷ codes "--branches" ∷ codes "1" ∷ []) ≡ None
words_43 = refl

words_44 : asked_by (codes "gen" ∷ codes "--start" ∷ codes "7" ∷ codes "--branches" ∷ codes "--run" ∷ []) ≡ None
words_44 = refl

words_45 : asked_by (codes "verilog" ∷ codes "a" ∷ []) ≡ Some (asks.Verilog (record { file = 1; main = None; pick = First; encode = false; guard = false }))
words_45 = refl

words_46 : asked_by (codes "--main" ∷ codes "m" ∷ codes "blif" ∷ codes "a" ∷ []) ≡ None
words_46 = refl

words_47 : asked_by (codes "blif" ∷ codes "a" ∷ codes "--nothing" ∷ []) ≡ None
words_47 = refl

words_48 : asked_by (codes "blif" ∷ codes "--mai" ∷ codes "n" ∷ codes "a" ∷ []) ≡ None
words_48 = refl

words_49 : asked_by (codes "blif" ∷ codes "--mainx=1" ∷ codes "a" ∷ []) ≡ None
words_49 = refl

words_50 : asked_by (codes "exec" ∷ codes "--via=c" ∷ codes "--via=c" ∷ codes "a" ∷ codes "b" ∷ []) ≡ None
words_50 = refl

words_51 : asked_by (codes "gen" ∷ codes "--start=" ∷ codes "--branches=1" ∷ []) ≡ None
words_51 = refl

words_52 : asked_by (codes "gen" ∷ codes "--start" ∷ codes "0x1" ∷ codes "--branches" ∷ codes "1" ∷ []) ≡ None
words_52 = refl

empty_words_0 : asked_by (codes "blif" ∷ [] ∷ codes "a" ∷ []) ≡ None
empty_words_0 = refl

empty_words_1 : asked_by (codes "blif" ∷ codes "--main" ∷ [] ∷ []) ≡ None
empty_words_1 = refl

empty_words_2 : asked_by ([] ∷ []) ≡ None
empty_words_2 = refl

words_53 : asked_by (codes "run" ∷ codes "--via" ∷ codes "tri" ∷ codes "a" ∷ codes "b" ∷ []) ≡
    Some (asks.RunTri (record { file = 3; main = None; pick = First; encode = false; guard = false }) 4)
words_53 = refl

words_54 : asked_by (codes "run" ∷ codes "a" ∷ codes "--main=m" ∷ codes "b" ∷ codes "--via=tri" ∷ []) ≡
    Some (asks.RunTri (record { file = 1; main = Some (record { word = 2; start = 7 }); pick = First; encode = false; guard = false }) 3)
words_54 = refl

words_55 : asked_by (codes "run" ∷ codes "--via=tri" ∷ codes "--pick" ∷ codes "first" ∷ codes "a" ∷ codes "b" ∷ []) ≡ None
words_55 = refl

words_56 : asked_by (codes "exec" ∷ codes "--via=tri" ∷ codes "a" ∷ codes "b" ∷ []) ≡ None
words_56 = refl

words_57 : asked_by (codes "run" ∷ codes "--via=tri" ∷ codes "a" ∷ []) ≡ None
words_57 = refl

words_58 : asked_by (codes "run" ∷ codes "--via=tri" ∷ codes "--encode" ∷ codes "a" ∷ codes "b" ∷ []) ≡ None
words_58 = refl

encode_words_0 : asked_by (codes "blif" ∷ codes "--encode" ∷ codes "a" ∷ []) ≡
    Some (asks.Blif (record { file = 2; main = None; pick = First; encode = true; guard = false }))
encode_words_0 = refl

encode_words_1 : asked_by (codes "blif" ∷ codes "a" ∷ codes "--encode" ∷ []) ≡
    Some (asks.Blif (record { file = 1; main = None; pick = First; encode = true; guard = false }))
encode_words_1 = refl

encode_words_2 : asked_by (codes "blif" ∷ codes "--encode" ∷ codes "--encode" ∷ codes "a" ∷ []) ≡ None
encode_words_2 = refl

encode_words_3 : asked_by (codes "blif" ∷ codes "--encode=1" ∷ codes "a" ∷ []) ≡ None
encode_words_3 = refl

encode_words_4 : asked_by (codes "blif" ∷ codes "--encode=" ∷ codes "a" ∷ []) ≡ None
encode_words_4 = refl

encode_words_5 : asked_by (codes "blif" ∷ codes "--pick" ∷ codes "last" ∷ codes "--encode" ∷ codes "--main" ∷ codes "m" ∷ codes "a" ∷ []) ≡
    Some (asks.Blif (record { file = 6; main = Some (record { word = 5; start = 0 }); pick = Last; encode = true; guard = false }))
encode_words_5 = refl

encode_words_6 : asked_by (codes "blif" ∷ codes "--main" ∷ codes "--encode" ∷ codes "a" ∷ []) ≡ None
encode_words_6 = refl

encode_words_7 : asked_by (codes "c" ∷ codes "--encode" ∷ codes "a" ∷ []) ≡ None
encode_words_7 = refl

encode_words_8 : asked_by (codes "grc" ∷ codes "--encode" ∷ codes "a" ∷ []) ≡ None
encode_words_8 = refl

encode_words_9 : asked_by (codes "check" ∷ codes "a" ∷ codes "--encode" ∷ []) ≡ None
encode_words_9 = refl

encode_words_10 : asked_by (codes "run" ∷ codes "--via" ∷ codes "blif" ∷ codes "--encode" ∷ codes "a" ∷ codes "b" ∷ []) ≡
    Some (asks.Run vias.Blif (record { file = 4; main = None; pick = First; encode = true; guard = false }) 5)
encode_words_10 = refl

encode_words_11 : asked_by (codes "run" ∷ codes "a" ∷ codes "--encode" ∷ codes "b" ∷ codes "--via=blif" ∷ []) ≡
    Some (asks.Run vias.Blif (record { file = 1; main = None; pick = First; encode = true; guard = false }) 3)
encode_words_11 = refl

encode_words_12 : asked_by (codes "run" ∷ codes "--via" ∷ codes "c" ∷ codes "--encode" ∷ codes "a" ∷ codes "b" ∷ []) ≡ None
encode_words_12 = refl

encode_words_13 : asked_by (codes "run" ∷ codes "--encode" ∷ codes "a" ∷ codes "b" ∷ []) ≡ None
encode_words_13 = refl

encode_words_14 : asked_by (codes "exec" ∷ codes "--via" ∷ codes "blif" ∷ codes "--encode" ∷ codes "a" ∷ codes "b" ∷ []) ≡ None
encode_words_14 = refl

encode_words_15 : asked_by (codes "gen" ∷ codes "--start" ∷ codes "1" ∷ codes "--branches" ∷ codes "1" ∷ codes "--encode" ∷ []) ≡ None
encode_words_15 = refl

encode_words_16 : asked_by (codes "blif" ∷ codes "--encodes" ∷ codes "a" ∷ []) ≡ None
encode_words_16 = refl

verilog_words_0 : asked_by (codes "verilog" ∷ codes "--main" ∷ codes "m" ∷ codes "--pick" ∷ codes "last" ∷ codes "a" ∷ []) ≡
    Some (asks.Verilog (record { file = 5; main = Some (record { word = 2; start = 0 }); pick = Last; encode = false; guard = false }))
verilog_words_0 = refl

verilog_words_1 : asked_by (codes "verilog" ∷ codes "a" ∷ codes "--pick=7" ∷ []) ≡
    Some (asks.Verilog (record { file = 1; main = None; pick = (Drawn 7); encode = false; guard = false }))
verilog_words_1 = refl

verilog_words_2 : asked_by (codes "verilog" ∷ []) ≡ None
verilog_words_2 = refl

verilog_words_3 : asked_by (codes "verilog" ∷ codes "a" ∷ codes "b" ∷ []) ≡ None
verilog_words_3 = refl

verilog_words_4 : asked_by (codes "verilog" ∷ codes "--encode" ∷ codes "a" ∷ []) ≡ None
verilog_words_4 = refl

verilog_words_5 : asked_by (codes "verilog" ∷ codes "--via=verilog" ∷ codes "a" ∷ []) ≡ None
verilog_words_5 = refl

verilog_words_6 : asked_by (codes "verilog" ∷ codes "--pick" ∷ codes "x" ∷ codes "a" ∷ []) ≡ None
verilog_words_6 = refl

verilog_words_7 : asked_by (codes "run" ∷ codes "--via" ∷ codes "verilog" ∷ codes "a" ∷ codes "b" ∷ []) ≡
    Some (asks.Run vias.Verilog (record { file = 3; main = None; pick = First; encode = false; guard = false }) 4)
verilog_words_7 = refl

verilog_words_8 : asked_by (codes "run" ∷ codes "a" ∷ codes "--via=verilog" ∷ codes "--pick" ∷ codes "last" ∷ codes "b" ∷ codes "--main=m" ∷ []) ≡
    Some (asks.Run vias.Verilog (record { file = 1; main = Some (record { word = 6; start = 7 }); pick = Last; encode = false; guard = false }) 5)
verilog_words_8 = refl

verilog_words_9 : asked_by (codes "run" ∷ codes "--via=verilog" ∷ codes "--encode" ∷ codes "a" ∷ codes "b" ∷ []) ≡ None
verilog_words_9 = refl

verilog_words_10 : asked_by (codes "run" ∷ codes "--via" ∷ codes "verilog" ∷ codes "a" ∷ []) ≡ None
verilog_words_10 = refl

verilog_words_11 : asked_by (codes "run" ∷ codes "--via=verilo" ∷ codes "a" ∷ codes "b" ∷ []) ≡ None
verilog_words_11 = refl

verilog_words_12 : asked_by (codes "exec" ∷ codes "--via" ∷ codes "verilog" ∷ codes "a" ∷ codes "b" ∷ []) ≡ Some (asks.Exec vias.Verilog 3 4)
verilog_words_12 = refl

verilog_words_13 : asked_by (codes "exec" ∷ codes "--via=verilog" ∷ codes "--pick=first" ∷ codes "a" ∷ codes "b" ∷ []) ≡ None
verilog_words_13 = refl

verilog_words_14 : asked_by (codes "exec" ∷ codes "--via=verilog" ∷ codes "--encode" ∷ codes "a" ∷ codes "b" ∷ []) ≡ None
verilog_words_14 = refl

verilog_words_15 : asked_by (codes "blif" ∷ codes "--via" ∷ codes "verilog" ∷ codes "a" ∷ []) ≡ None
verilog_words_15 = refl

-- no file and no value is empty
an_empty_file : asked_by (codes "blif" ∷ [] ∷ []) ≡ None
an_empty_file = refl

an_empty_value : asked_by (codes "blif" ∷ codes "--main" ∷ [] ∷ codes "a" ∷ []) ≡ None
an_empty_value = refl

guard_words_0 : asked_by (codes "c" ∷ codes "--guard" ∷ codes "a" ∷ []) ≡
    Some (asks.C (record { file = 2; main = None; pick = First; encode = false; guard = true }))
guard_words_0 = refl

guard_words_1 : asked_by (codes "c" ∷ codes "a" ∷ codes "--guard" ∷ []) ≡
    Some (asks.C (record { file = 1; main = None; pick = First; encode = false; guard = true }))
guard_words_1 = refl

guard_words_2 : asked_by (codes "c" ∷ codes "--guard=1" ∷ codes "a" ∷ []) ≡ None
guard_words_2 = refl

guard_words_3 : asked_by (codes "c" ∷ codes "--guard" ∷ codes "--guard" ∷ codes "a" ∷ []) ≡ None
guard_words_3 = refl

guard_words_4 : asked_by (codes "c" ∷ codes "--guard" ∷ codes "--main" ∷ codes "m" ∷ codes "--pick=7" ∷ codes "a" ∷ []) ≡
    Some (asks.C (record { file = 5; main = Some (record { word = 3; start = 0 }); pick = (Drawn 7); encode = false; guard = true }))
guard_words_4 = refl

guard_words_5 : asked_by (codes "c" ∷ codes "--guard" ∷ codes "--encode" ∷ codes "a" ∷ []) ≡ None
guard_words_5 = refl

guard_words_6 : asked_by (codes "c" ∷ codes "--guard" ∷ []) ≡ None
guard_words_6 = refl

guard_words_7 : asked_by (codes "verilog" ∷ codes "--guard" ∷ codes "a" ∷ []) ≡ None
guard_words_7 = refl

guard_words_8 : asked_by (codes "blif" ∷ codes "--guard" ∷ codes "a" ∷ []) ≡ None
guard_words_8 = refl

guard_words_9 : asked_by (codes "check" ∷ codes "--guard" ∷ codes "a" ∷ []) ≡ None
guard_words_9 = refl

guard_words_10 : asked_by (codes "run" ∷ codes "--via" ∷ codes "guard" ∷ codes "a" ∷ codes "b" ∷ []) ≡
    Some (asks.Run vias.Guard (record { file = 3; main = None; pick = First; encode = false; guard = false }) 4)
guard_words_10 = refl

guard_words_11 : asked_by (codes "run" ∷ codes "a" ∷ codes "--via=guard" ∷ codes "--pick" ∷ codes "last" ∷ codes "b" ∷ codes "--main=m" ∷ []) ≡
    Some (asks.Run vias.Guard (record { file = 1; main = Some (record { word = 6; start = 7 }); pick = Last; encode = false; guard = false }) 5)
guard_words_11 = refl

guard_words_12 : asked_by (codes "run" ∷ codes "--via" ∷ codes "guard" ∷ codes "--encode" ∷ codes "a" ∷ codes "b" ∷ []) ≡ None
guard_words_12 = refl

guard_words_13 : asked_by (codes "run" ∷ codes "--via=guard" ∷ codes "--guard" ∷ codes "a" ∷ codes "b" ∷ []) ≡ None
guard_words_13 = refl

guard_words_14 : asked_by (codes "run" ∷ codes "--via=guar" ∷ codes "a" ∷ codes "b" ∷ []) ≡ None
guard_words_14 = refl

guard_words_15 : asked_by (codes "exec" ∷ codes "--via" ∷ codes "guard" ∷ codes "a" ∷ codes "b" ∷ []) ≡
    Some (asks.Exec vias.Guard 3 4)
guard_words_15 = refl

guard_words_16 : asked_by (codes "exec" ∷ codes "--via=guard" ∷ codes "--guard" ∷ codes "a" ∷ codes "b" ∷ []) ≡ None
guard_words_16 = refl
