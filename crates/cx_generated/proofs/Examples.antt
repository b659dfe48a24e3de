-- The units and the plan of the least numbers, computed.
use Rattle.std.specs.Prelude.{◌≡◌, refl, ◌++◌, pos, codes}
use Rattle.std.specs.Fmt.{digits}
use Rattle.cx_generated.specs.Generated.{unit_name, unit_text, plan_text, summary_line}

one_unit : unit_text 1 1
    ≡ codes "int f1_1(const int x) pre(x >= 0) post(r : r >= x) { return x; }\n"
    ++ codes "int f1_2(const int x) pre(x >= 0) post(r : r >= x) { return f1_1(x) + 1; }\n"
    ++ codes "int f1_3(const int x) pre(x >= 0) post(r : r >= x) { return f1_2(x) + 1; }\n"
    ++ codes "int f1_4(const int x) pre(x >= 0) post(r : r >= x) { return f1_3(x) + 1; }\n"
    ++ codes "int f1_5(const int x) pre(x >= 0) post(r : r >= x) { return f1_4(x) + 1; }\n"
    ++ codes "int f1_6(const int x) pre(x >= 0) post(r : r >= x) { return f1_5(x) + 1; }\n"
    ++ codes "int f1_7(const int x) pre(x >= 0) post(r : r >= x) { return f1_6(x) + 1; }\n"
    ++ codes "int f1_8(const int x) pre(x >= 0) post(r : r >= x) { return f1_7(x) + 1; }\n"
    ++ codes "int f1_9(const int x) pre(x >= 0) post(r : r >= x) { return f1_8(x) + 1; }\n"
    ++ codes "int f1_10(const int x) pre(x >= 0) post(r : r >= x) { return f1_9(x) + 1; }\n"
    ++ codes "int f1_11(const int x) pre(x >= 0) post(r : r >= x) { return f1_10(x) + 1; }\n"
    ++ codes "int f1_12(const int x) pre(x >= 0) post(r : r >= x) { return f1_11(x) + 1; }\n"
    ++ codes "int f1_13(const int x) pre(x >= 0) post(r : r >= x) { return f1_12(x) + 1; }\n"
    ++ codes "int f1_14(const int x) pre(x >= 0) post(r : r >= x) { return f1_13(x) + 1; }\n"
    ++ codes "int f1_15(const int x) pre(x >= 0) post(r : r >= x) { return f1_14(x) + 1; }\n"
    ++ codes "int f1_16(const int x) pre(x >= 0) post(r : r >= x) { return f1_15(x) + 1; }\n"
    ++ codes "int main() { return f1_16(0); }\n"
unfolding unit_text digits
one_unit = refl

plan_of_one : plan_text 1
    ≡ codes "unit m1.cpp observe pre 1\n"
unfolding plan_text digits
plan_of_one = refl

first_of_two : unit_text 2 1
    ≡ codes "int f1_1(const int x) pre(x >= 0) post(r : r >= x) { return x; }\n"
    ++ codes "int f1_2(const int x) pre(x >= 0) post(r : r >= x) { return f1_1(x) + 1; }\n"
    ++ codes "int f1_3(const int x) pre(x >= 0) post(r : r >= x) { return f1_2(x) + 1; }\n"
    ++ codes "int f1_4(const int x) pre(x >= 0) post(r : r >= x) { return f1_3(x) + 1; }\n"
    ++ codes "int f1_5(const int x) pre(x >= 0) post(r : r >= x) { return f1_4(x) + 1; }\n"
    ++ codes "int f1_6(const int x) pre(x >= 0) post(r : r >= x) { return f1_5(x) + 1; }\n"
    ++ codes "int f1_7(const int x) pre(x >= 0) post(r : r >= x) { return f1_6(x) + 1; }\n"
    ++ codes "int f1_8(const int x) pre(x >= 0) post(r : r >= x) { return f1_7(x) + 1; }\n"
    ++ codes "int f1_9(const int x) pre(x >= 0) post(r : r >= x) { return f1_8(x) + 1; }\n"
    ++ codes "int f1_10(const int x) pre(x >= 0) post(r : r >= x) { return f1_9(x) + 1; }\n"
    ++ codes "int f1_11(const int x) pre(x >= 0) post(r : r >= x) { return f1_10(x) + 1; }\n"
    ++ codes "int f1_12(const int x) pre(x >= 0) post(r : r >= x) { return f1_11(x) + 1; }\n"
    ++ codes "int f1_13(const int x) pre(x >= 0) post(r : r >= x) { return f1_12(x) + 1; }\n"
    ++ codes "int f1_14(const int x) pre(x >= 0) post(r : r >= x) { return f1_13(x) + 1; }\n"
    ++ codes "int f1_15(const int x) pre(x >= 0) post(r : r >= x) { return f1_14(x) + 1; }\n"
    ++ codes "int f1_16(const int x) pre(x >= 0) post(r : r >= x) { return f1_15(x) + 1; }\n"
unfolding unit_text digits
first_of_two = refl

second_of_two : unit_text 2 2
    ≡ codes "int f1_16(const int x) pre(x >= 0) post(r : r >= x);\n"
    ++ codes "int f2_1(const int x) pre(x >= 0) post(r : r >= x) { return f1_16(x) + 1; }\n"
    ++ codes "int f2_2(const int x) pre(x >= 0) post(r : r >= x) { return f2_1(x) + 1; }\n"
    ++ codes "int f2_3(const int x) pre(x >= 0) post(r : r >= x) { return f2_2(x) + 1; }\n"
    ++ codes "int f2_4(const int x) pre(x >= 0) post(r : r >= x) { return f2_3(x) + 1; }\n"
    ++ codes "int f2_5(const int x) pre(x >= 0) post(r : r >= x) { return f2_4(x) + 1; }\n"
    ++ codes "int f2_6(const int x) pre(x >= 0) post(r : r >= x) { return f2_5(x) + 1; }\n"
    ++ codes "int f2_7(const int x) pre(x >= 0) post(r : r >= x) { return f2_6(x) + 1; }\n"
    ++ codes "int f2_8(const int x) pre(x >= 0) post(r : r >= x) { return f2_7(x) + 1; }\n"
    ++ codes "int f2_9(const int x) pre(x >= 0) post(r : r >= x) { return f2_8(x) + 1; }\n"
    ++ codes "int f2_10(const int x) pre(x >= 0) post(r : r >= x) { return f2_9(x) + 1; }\n"
    ++ codes "int f2_11(const int x) pre(x >= 0) post(r : r >= x) { return f2_10(x) + 1; }\n"
    ++ codes "int f2_12(const int x) pre(x >= 0) post(r : r >= x) { return f2_11(x) + 1; }\n"
    ++ codes "int f2_13(const int x) pre(x >= 0) post(r : r >= x) { return f2_12(x) + 1; }\n"
    ++ codes "int f2_14(const int x) pre(x >= 0) post(r : r >= x) { return f2_13(x) + 1; }\n"
    ++ codes "int f2_15(const int x) pre(x >= 0) post(r : r >= x) { return f2_14(x) + 1; }\n"
    ++ codes "int f2_16(const int x) pre(x >= 0) post(r : r >= x) { return f2_15(x) + 1; }\n"
    ++ codes "int main() { return f2_16(0); }\n"
unfolding unit_text digits
second_of_two = refl

plan_of_nine : plan_text 9
    ≡ codes "unit m1.cpp observe pre 1\n"
    ++ codes "unit m2.cpp enforce all 2\n"
    ++ codes "unit m3.cpp quick_enforce none 3\n"
    ++ codes "unit m4.cpp ignore pre 4\n"
    ++ codes "unit m5.cpp observe all 5\n"
    ++ codes "unit m6.cpp enforce none 6\n"
    ++ codes "unit m7.cpp quick_enforce pre 7\n"
    ++ codes "unit m8.cpp ignore all 0\n"
    ++ codes "unit m9.cpp observe none 1\n"
unfolding plan_text digits
plan_of_nine = refl

name_of_the_last : unit_name 64
    ≡ codes "m64.cpp"
unfolding digits
name_of_the_last = refl

summary_of_one : summary_line 1 96 (pos 15)
    ≡ codes "make 1: functions 16, begins 96, returned 15\n"
unfolding summary_line digits
summary_of_one = refl

summary_of_two : summary_line 2 292 (pos 31)
    ≡ codes "make 2: functions 32, begins 292, returned 31\n"
unfolding summary_line digits
summary_of_two = refl
