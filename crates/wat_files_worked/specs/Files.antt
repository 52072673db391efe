-- The three files of a database, byte by byte, after a session that makes the table t (k INTEGER PRIMARY KEY, v INTEGER), puts the rows (1, 10), (3, 30) and (5, 50) into it, and commits; and files in which one thing is broken.
use Rattle.std.specs.Prelude.{ℕ, ◌==◌, List, [], ◌∷◌, ◌++◌, drop, replicate, codes, if◌then◌else◌}
use Rattle.wat_disk.specs.Disk.{Image}

-- these bytes, and zeros up to the end of a page
abbrev pub page_of : List ℕ → ℕ → List ℕ
page_of bytes zeros = bytes ++ replicate zeros 0

-- the header: 3 pages of at most 65,536; 2 frames, which end at 120; the catalog at page 1, nothing to roll back, no free page; the next table is 2
abbrev pub header : List ℕ
header =
    codes "WATSQL01" ++ 0 ∷ 0 ∷ 0 ∷ 1 ∷ 0 ∷ 0 ∷ 16 ∷ 0 ∷ 0 ∷ 1 ∷ 0 ∷ 0 ∷ 0 ∷ 0 ∷ 0 ∷ 3 ∷ 0 ∷ 0 ∷ 0 ∷ 0 ∷ 0 ∷ 0 ∷ 0 ∷ 2 ∷ 0 ∷ 0 ∷ 0 ∷ 0 ∷ 0 ∷ 0 ∷ 0 ∷ 120
    ∷ 0 ∷ 0 ∷ 0 ∷ 1 ∷ 0 ∷ 0 ∷ 0 ∷ 0 ∷ 0 ∷ 0 ∷ 0 ∷ 0 ∷ 0 ∷ 0 ∷ 0 ∷ 2 ∷ []

-- the table's definition, as the record and the catalog have it
abbrev pub definition : List ℕ
definition = 0 ∷ 0 ∷ 0 ∷ 1 ∷ 1 ∷ 0x74 ∷ 2 ∷ 1 ∷ 0x6b ∷ 1 ∷ 0 ∷ 0 ∷ 0 ∷ 1 ∷ 0x76 ∷ 1 ∷ 0 ∷ 0 ∷ 1 ∷ 1 ∷ 0 ∷ []

-- the catalog chain: one page with 26 bytes, which are the table's definition and no index
abbrev pub catalog : List ℕ
catalog = 2 ∷ 0 ∷ 0 ∷ 0 ∷ 0 ∷ 0 ∷ 0 ∷ 0 ∷ 0 ∷ 26 ∷ 0 ∷ 0 ∷ 0 ∷ 0 ∷ 0 ∷ 0 ∷ 0 ∷ 0 ∷ 0 ∷ 1 ∷ definition ++ 0 ∷ []

-- a row of two integers below 256
abbrev pub row : ℕ → ℕ → List ℕ
row key value = 0 ∷ 2 ∷ 1 ∷ 0 ∷ 0 ∷ 0 ∷ 0 ∷ 0 ∷ 0 ∷ 0 ∷ key ∷ 1 ∷ 0 ∷ 0 ∷ 0 ∷ 0 ∷ 0 ∷ 0 ∷ 0 ∷ value ∷ []

-- its cell: 24 bytes, of table 1
abbrev pub cell : ℕ → ℕ → List ℕ
cell key value = 0 ∷ 24 ∷ 0 ∷ 0 ∷ 0 ∷ 1 ∷ row key value

-- the row page: three cells
abbrev pub rows : List ℕ
rows = 3 ∷ 0 ∷ 0 ∷ 3 ∷ 0 ∷ 0 ∷ 0 ∷ 0 ∷ 0 ∷ 0 ∷ 0 ∷ 0 ∷ 0 ∷ 0 ∷ 0 ∷ 0 ∷ cell 1 10 ++ cell 3 30 ++ cell 5 50

-- main with these three pages
abbrev pub main_of : List ℕ → List ℕ → List ℕ → List ℕ
main_of first second third = page_of first 4040 ++ (page_of second 4054 ++ page_of third 4002)

-- the frames of the log, each with its gate in front
abbrev pub frame_1 : List ℕ
frame_1 = 0xa5 ∷ 0 ∷ 0 ∷ 0 ∷ 0x17 ∷ 5 ∷ 1 ∷ definition

-- connection 1 inserts a row into table 1
abbrev pub inserted : ℕ → ℕ → List ℕ
inserted key value = 1 ∷ 0 ∷ 1 ∷ 1 ∷ 0 ∷ 0 ∷ 0 ∷ 1 ∷ row key value

abbrev pub frame_2 : List ℕ
frame_2 = 0xa5 ∷ 0 ∷ 0 ∷ 0 ∷ 87 ∷ inserted 1 10 ++ inserted 3 30 ++ inserted 5 50 ++ 3 ∷ 0 ∷ 1 ∷ []

abbrev pub log : List ℕ
log = frame_1 ++ frame_2 ++ 0 ∷ []

-- main, before, and the log
abbrev pub files_of : List ℕ → List ℕ → List ℕ → Image
files_of main before log file = if file == 0 then main else if file == 1 then before else if file == 2 then log else []

abbrev pub whole_files : Image
whole_files = files_of (main_of header catalog rows) (0 ∷ []) log

-- ---- files with one thing broken

-- the before file has no gate
abbrev pub without_gate : Image
without_gate = files_of (main_of header catalog rows) [] log

-- the header's first letter is another
abbrev pub without_header : Image
without_header = files_of (main_of (0 ∷ drop 1 header) catalog rows) (0 ∷ []) log

-- the header with another place of the log's gate, or with a first page of changes to roll back
abbrev pub header_with : ℕ → ℕ → List ℕ
header_with place rollback =
    codes "WATSQL01" ++ 0 ∷ 0 ∷ 0 ∷ 1 ∷ 0 ∷ 0 ∷ 16 ∷ 0 ∷ 0 ∷ 1 ∷ 0 ∷ 0 ∷ 0 ∷ 0 ∷ 0 ∷ 3 ∷ 0 ∷ 0 ∷ 0 ∷ 0 ∷ 0 ∷ 0 ∷ 0 ∷ 2 ∷ 0 ∷ 0 ∷ 0 ∷ 0 ∷ 0 ∷ 0 ∷ 0 ∷ place
    ∷ 0 ∷ 0 ∷ 0 ∷ 1 ∷ 0 ∷ 0 ∷ 0 ∷ rollback ∷ 0 ∷ 0 ∷ 0 ∷ 0 ∷ 0 ∷ 0 ∷ 0 ∷ 2 ∷ []

-- the changes to roll back begin at the catalog's page
abbrev pub page_twice : Image
page_twice = files_of (main_of (header_with 120 1) catalog rows) (0 ∷ []) log

-- the header has the place of the first frame's gate for the one behind both frames
abbrev pub wrong_place : Image
wrong_place = files_of (main_of (header_with 28 0) catalog rows) (0 ∷ []) log

-- the catalog's page is of another kind
abbrev pub without_catalog : Image
without_catalog = files_of (main_of header (3 ∷ drop 1 catalog) rows) (0 ∷ []) log

-- page 2 is no row page
abbrev pub without_rows : Image
without_rows = files_of (main_of header catalog (4 ∷ drop 1 rows)) (0 ∷ []) log

-- the last gate of the log is missing
abbrev pub cut_log : Image
cut_log = files_of (main_of header catalog rows) (0 ∷ []) (frame_1 ++ frame_2)

-- the log has its first frame alone
abbrev pub short_log : Image
short_log = files_of (main_of header catalog rows) (0 ∷ []) (frame_1 ++ 0 ∷ [])

-- behind the log's two frames stands one that spells no records
abbrev pub bad_record : Image
bad_record = files_of (main_of header catalog rows) (0 ∷ []) (frame_1 ++ frame_2 ++ 0xa5 ∷ 0 ∷ 0 ∷ 0 ∷ 1 ∷ 9 ∷ 0 ∷ [])
